-- Words on lists and options.
pub mod Lists
