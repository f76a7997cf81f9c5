mod AlikeComponents
pub mod AscendingBases
pub mod BasesKept
pub mod BasesMet
mod ChosenEvents
mod ClearedEnds
pub mod ClosedComponents
mod ClosedInPlace
mod ComparedRows
pub mod CornerSides
pub mod CylinderDirections
pub mod CylinderFloors
pub mod CylinderReturns
pub mod CylinderSides
pub mod DividedBases
pub mod DividedComponents
mod EarlierEvents
mod EqualParts
mod EventNumbers
pub mod EventReturns
pub mod EventRows
pub mod EventWeights
mod EventsInPlace
mod ExchangeInPlace
mod LastInPlace
pub mod LastLetters
mod LastReads
pub mod LawfulEvents
pub mod LeftEnds
pub mod LetterChanges
pub mod LinePassages
mod ListsSoFar
mod MergedInPlace
mod MergedSteps
pub mod NameRows
pub mod NamedLetters
pub mod NextExists
pub mod NumberedEvents
pub mod OpenedRows
pub mod OutcomeUnique
pub mod PairedSums
pub mod PartsMet
mod Places
mod PowersOfTwo
mod Prefixes
pub mod RowEnds
pub mod RowIntervals
mod RowMoves
mod RowsAround
pub mod RunBounds
pub mod RunCalls
pub mod RunChanges
pub mod RunExists
mod RunLoops
pub mod RunParts
pub mod RunSteps
pub mod RunUnique
pub mod RunsUnderWay
mod SearchedRows
pub mod ShiftedLines
pub mod ShortenedComponents
mod SmallProducts
mod SplitInPlace
pub mod SplitPlaces
mod SplitSteps
pub mod StepExists
mod SumsInRoom
pub mod TakenAfter
pub mod TouchedKept
pub mod TowersKept
mod WonInPlace
mod WonSteps
mod WrittenLetters
