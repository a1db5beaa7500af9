-- Laws that the programs' functions stand on: what the entry points' answers say of what is printed; and that no
-- accepted task's text is cut.
pub mod Answered
pub mod Printed
pub mod PlanUnfolded
pub mod Uncut
pub mod Arguments
pub mod Proposals
pub mod TakenRead
pub mod Runs
