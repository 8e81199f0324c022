pub mod Grown
pub mod MachineMaps
pub mod MachineCounts
pub mod MachineRun
pub mod MachineReplay
pub mod MachineBlocks
pub mod MachineRemain
mod MachineTraces
pub mod MachineTaking
pub mod Laws
