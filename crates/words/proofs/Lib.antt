-- Lemmas on the words of headers and references.
pub mod HeaderLaws
pub mod KindLaws
pub mod ReferenceLaws
pub mod EdgeLaws
