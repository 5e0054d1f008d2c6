mod Rewriting
mod Rereading
