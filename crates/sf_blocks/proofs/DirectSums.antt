-- Direct sums of relations, and what is zero modulo them.
pub mod SummandSpans
pub mod ZeroModulo
