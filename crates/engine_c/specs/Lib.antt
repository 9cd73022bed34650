-- The line part by place.
pub mod Parts
