-- What is known of an address in an accepted input.
pub mod AddressAt
