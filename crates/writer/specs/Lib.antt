pub mod Added
pub mod AddedItems
