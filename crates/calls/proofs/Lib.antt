pub mod CodeRuns
pub mod CodePorts
