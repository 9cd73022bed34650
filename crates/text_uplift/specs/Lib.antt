-- The uplift program's line as its code puts it.
pub mod Lines
