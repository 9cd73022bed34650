-- Laws on rows of five (Fives), also one that is carried back from its last place (Carried), on shares and on prices turned by the side, which
-- proofs cite. The contracts of `numbers` cite arithmetic, and `turned`.
pub mod Fives
pub mod Carried
pub mod Shares
pub mod Turned
