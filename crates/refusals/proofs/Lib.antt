-- Steps that answer a refusal.
pub mod Steps
