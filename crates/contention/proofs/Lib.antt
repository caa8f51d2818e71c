pub mod CodeReady
