-- Facts that values may keep: each has at most one proof. (This project's own.)
--
-- Over a ring `IsLift` has at most one proof as it stands, as have `IsSyzygy`, `IsSyzygyBasis`, `IsGraphBasis` and
-- `IsMatrix`. `InSpan` has many, by many coefficients, and with it `IsSpanBasis`, `IsReducedByRelations`, `AreMinimal`,
-- `IsPresentation` (`IsHomology`, `IsKernel`, `IsImage`, `IsCokernel`), `IsFirstStep`, `IsNextStep`, `IsResolution`,
-- `AreCoordinates`, `IsModuleMap` and `AreInverseModulo`. Of these the mere fact is kept. It still tells of what value it
-- is, and over a field it gives the fact back.

-- merely P: that there is a proof, and not which
abbrev pub Merely : Type 0 → Type 0
Merely P = ∥ P ∥₁
