pub mod Truth
pub mod FlagLaws
pub mod SameGap
pub mod Begun
pub mod SameLayout
pub mod GapShown
pub mod DocumentShown
pub mod FlagsAlone
pub mod BesideLaws
pub mod LexedKinds
pub mod LexedPlaces
pub mod LexedSteps
pub mod ShownOrder
pub mod LexedWalk
mod Examples
