pub mod Log
pub mod Fresh
pub mod Reports
pub mod Demand
pub mod Files
pub mod First
