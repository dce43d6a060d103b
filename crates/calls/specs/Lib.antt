-- The calls on the manager: what each does.
pub mod Acts
