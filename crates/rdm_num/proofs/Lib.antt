-- Lemmas on the definitions.
pub mod Lives
