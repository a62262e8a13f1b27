use Rattle.std.proofs.Common.{◌≡◌, int_le, rules, arith, to_z, of_z, w64}
use Rattle.std.proofs.lemmas.Grind.{common_steps}
use Rattle.std.proofs.lemmas.List.Sorted.{IsPartitionPoint-from_clause}
use Rattle.sf_pairs.specs.Pushes.{NumberedPair}
use Rattle.sf_pairs.proofs.queue.place_behind.Goals as goal

pub returns-clause-point : goal.returns-clause-point
returns-clause-point c =
    let degree : to_z w64 (of_z w64 c.args.degree) ≡ c.args.degree = search rules in
    IsPartitionPoint-from_clause (λ (e : NumberedPair). int_le e.pair.degree c.args.degree) c.args.entries.now.items
    c.partition_point.result c.partition_point.ensures.partitioned c.requires (λ a r f called. grind (arith, common_steps, degree))
