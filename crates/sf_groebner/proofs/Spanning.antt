-- Modules, as far as uniqueness and existence ask: spans, syzygies, graphs, relations, and their groups.
pub mod Modules
pub mod Spans
pub mod SameModules
pub mod SumsAndMultiples
pub mod Submodules
pub mod Generators
pub mod CombinationSums
pub mod SpanCombinations
pub mod SyzygyCombinations
pub mod AddedParts
pub mod GraphGenerators
pub mod GraphMatrices
pub mod SpanGroups
