mod JobEnds
mod KeptOrder
mod KeptFronts
mod KeptWorlds
mod Counting
mod Parts
