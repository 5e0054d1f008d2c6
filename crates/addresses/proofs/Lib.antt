pub mod AddressTexts
