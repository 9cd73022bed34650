-- Laws of the text.
pub mod Laws
