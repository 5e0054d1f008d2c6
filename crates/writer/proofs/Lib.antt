mod Added
mod AddedItems
mod AddedTexts
mod CallCases
