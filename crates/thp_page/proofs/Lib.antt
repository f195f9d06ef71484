pub mod SomeBelow
pub mod SubSets
pub mod RangeLemmas
pub mod PageSizes
pub mod PageRefusals
pub mod PageChanges
pub mod PageUse
pub mod Trailing
pub mod ZeroSets
mod LowBits
mod Hanging
mod Splitting
mod Seeking
mod TreeSteps
mod SplitSteps
mod PaddedNumbers
pub mod TableSlots
mod Paddings
mod StoredDescriptors
pub mod TableSteps
pub mod Recording
mod Carries
mod Chosen
mod WordBits
mod Seen
