-- At a settled end what was matched between standing lives is complete.
pub mod Still
pub mod DuesPushed
pub mod Datagrams
pub mod Delivered
pub mod Meets
pub mod AllTaken
pub mod AllEnters
pub mod NoneDropped
pub mod OwedRest
pub mod PlacedRest
pub mod CarriedBack
pub mod PushedLands
pub mod WholePushed
pub mod OwedBack
pub mod ReadLands
pub mod CompletesMatched
pub mod Complete
