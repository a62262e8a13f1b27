-- Parts of reduced bases: of graphs, of syzygies of stacks.
pub mod PartSums
pub mod PartLeads
pub mod PairedVectors
pub mod ReducedParts
pub mod FirstParts
pub mod GraphParts
pub mod GraphLifts
pub mod GraphVectors
pub mod StackedSpans
pub mod Relations
