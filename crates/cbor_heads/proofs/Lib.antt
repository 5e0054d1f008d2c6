pub mod ShortestHead
