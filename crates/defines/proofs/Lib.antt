-- Laws of the PDDL text: the pieces that code puts.
pub mod Pieces
-- What it tells of a task: items of brackets, names, atoms, actions, tasks, tables, outcomes.
pub mod Through
pub mod Items
pub mod Told
pub mod NamesTold
pub mod AtomsTold
pub mod Roles
pub mod ActionsTold
pub mod TasksTold
pub mod PartsCleared
pub mod TablesTold
pub mod OutcomesTold
-- Its pieces by the words of a table.
pub mod MarkedNames
pub mod Formulas
pub mod AtomItems
pub mod TableItems
pub mod PairItems
pub mod RoleRuns
pub mod RunsPut
pub mod Frames
pub mod DefinesIn
-- How long it is at most, and how it is counted.
pub mod Longest
pub mod Sizes
pub mod PieceSums
-- What writing it answers.
pub mod PddlOutcome
