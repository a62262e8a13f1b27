-- Commutative groups on which operators act, their subgroups and maps, and equality modulo a subgroup. A subgroup is
-- given by the predicate that its elements meet. (Lang, "Algebra", chapters I and III.)
use Rattle.std.specs.Prelude.{◌≡◌}

-- a commutative group, with operators R that act additively
pub record Group (R : Type 0) : Type 1 where
  pub V : Type 0
  pub zero : V
  pub plus : V → V → V
  pub minus : V → V
  pub act : R → V → V
  pub comm : (u v : V) → plus u v ≡ plus v u
  pub assoc : (u v w : V) → plus (plus u v) w ≡ plus u (plus v w)
  pub unit : (u : V) → plus u zero ≡ u
  pub inverse : (u : V) → plus u (minus u) ≡ zero
  pub act_plus : (r : R) (u v : V) → act r (plus u v) ≡ plus (act r u) (act r v)

-- N is a subgroup that the operators keep
pub record IsSub {R : Type 0} (G : Group R) (N : G.V → Type 0) : Type 0 where
  pub has_zero : N G.zero
  pub has_plus : (u v : G.V) → N u → N v → N (G.plus u v)
  pub has_minus : (u : G.V) → N u → N (G.minus u)
  pub has_act : (r : R) (u : G.V) → N u → N (G.act r u)

-- f keeps sums and what the operators do
pub record IsMap {R : Type 0} (G H : Group R) (f : G.V → H.V) : Type 0 where
  pub to_plus : (u v : G.V) → f (G.plus u v) ≡ H.plus (f u) (f v)
  pub to_act : (r : R) (u : G.V) → f (G.act r u) ≡ H.act r (f u)

-- u and v are equal modulo N
abbrev pub Mod : {R : Type 0} (G : Group R) (N : G.V → Type 0) → G.V → G.V → Type 0
Mod G N u v = N (G.plus u (G.minus v))

-- each element of M is one of N
abbrev pub IsWithin : {V : Type 0} → (V → Type 0) → (V → Type 0) → Type 0
IsWithin {V} M N = (v : V) → M v → N v

-- all elements
abbrev pub Whole : {V : Type 0} → V → Type 0
Whole v = Unit {0}

-- zero alone
abbrev pub ZeroOf : {R : Type 0} (G : Group R) → G.V → Type 0
ZeroOf G v = v ≡ G.zero

-- the elements to which f takes those of N
abbrev pub ImageOf : {V W : Type 0} → (V → W) → (V → Type 0) → W → Type 0
ImageOf {V} f N w = (v : V) × N v × (f v ≡ w)

-- the elements that f takes into N
abbrev pub PreimageOf : {V W : Type 0} → (V → W) → (W → Type 0) → V → Type 0
PreimageOf f N v = N (f v)

-- the elements that f takes to zero
abbrev pub KernelOf : {R V : Type 0} (H : Group R) → (V → H.V) → V → Type 0
KernelOf H f v = f v ≡ H.zero

-- the elements of both
abbrev pub BothOf : {V : Type 0} → (V → Type 0) → (V → Type 0) → V → Type 0
BothOf M N v = M v × N v

-- the sums of an element of M and one of N
abbrev pub SumOf : {R : Type 0} (G : Group R) → (G.V → Type 0) → (G.V → Type 0) → G.V → Type 0
SumOf G M N w = (u v : G.V) × M u × N v × (G.plus u v ≡ w)
