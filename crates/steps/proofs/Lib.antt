pub mod CodeStep
