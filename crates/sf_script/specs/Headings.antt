-- The headings of a script: its version, then its ring, and then the limit on its bases.
use Rattle.std.specs.Prelude.{ℕ, Bool, true, false, not, ◌&&◌, ◌||◌, if◌then◌else◌, nat_le, Option, Some, None, Result, Ok, Err, List, [], ◌∷◌, length, ℤ, pos, int_le, unsigned_abs, ◌≤◌}
use Rattle.std.specs.Ordering.{int_eq}
use Rattle.std.specs.Option.{option_map}
use Rattle.sf_field.specs.Moduli.{is_modulus}
use Rattle.sf_text.specs.Unknowns.{is_among}
use Rattle.sf_text.specs.declared.ring.Ring.{Ring}
use Rattle.sf_script.specs.declared.heads.Heads.TheVariants.{Unopened, Opened, Within}
use Rattle.sf_script.specs.declared.heads.Heads.{Heads}
use Rattle.sf_script.specs.declared.heads.Setting.{Setting}
use Rattle.sf_script.specs.declared.fault.LineFault.TheVariants as faults
use Rattle.sf_script.specs.declared.fault.LineFault.{LineFault}

-- what is settled with the ring, where it was given
abbrev pub setting_of : Heads → Option Setting
setting_of Unopened = None
setting_of Opened = None
setting_of (Within setting) = Some setting

-- the ring, where it was given
abbrev pub ring_of : Heads → Option Ring
ring_of heads = option_map (λ (setting : Setting). setting.ring) (setting_of heads)

-- no two of the names are equal
abbrev pub are_distinct : List (List ℕ) → Bool
are_distinct [] = true
are_distinct (name ∷ names) = not (is_among names name) && are_distinct names

-- the version is the first heading, and is 1
abbrev pub opens : Heads → ℤ → Bool
opens Unopened version = int_eq version (pos 1)
opens Opened version = false
opens (Within setting) version = false

-- the ring is the second heading; its modulus is in the table, and it has at most six variables, no two equal
abbrev pub enters : Heads → ℕ → List (List ℕ) → Bool
enters Unopened modulus names = false
enters Opened modulus names = is_modulus modulus && (nat_le (length names) 6 && are_distinct names)
enters (Within setting) modulus names = false

-- the greatest sum of the exponents of a lead where no limit is given
abbrev pub DEFAULT_LIMIT : ℕ
DEFAULT_LIMIT = 40

-- the headings once the ring is given
abbrev pub ring_entered : Ring → Heads
ring_entered ring = Within (record {
  ring = ring;
  limit = DEFAULT_LIMIT;
  limited = false;
  noted = false;
})

-- a limit that may be given
abbrev pub is_limit : ℤ → Bool
is_limit limit = int_le (pos 1) limit && int_le limit (pos 60)

-- the limit that is given, or why it is refused: it is given once, and before any other line with a reply that comes after the ring
abbrev pub limit_entered : Heads → ℤ → Result ℕ LineFault
limit_entered Unopened limit = Err faults.Ring
limit_entered Opened limit = Err faults.Ring
limit_entered (Within setting) limit =
    if setting.limited || setting.noted then Err faults.Ring
    else (if is_limit limit then Ok (unsigned_abs limit) else Err faults.Range)

-- the headings with this limit
abbrev pub limited : ℕ → Heads → Heads
limited limit Unopened = Unopened
limited limit Opened = Opened
limited limit (Within setting) = Within (record setting { limit = limit; limited = true })

-- after another line with a reply no limit can be given any more
abbrev pub noted : Heads → Heads
noted Unopened = Unopened
noted Opened = Opened
noted (Within setting) = Within (record setting { noted = true })

-- a ring has from one to six variables
abbrev pub HasFewVariables : Heads → Type 0
HasFewVariables Unopened = Unit {0}
HasFewVariables Opened = Unit {0}
HasFewVariables (Within setting) = (1 ≤ length setting.ring.names) × (length setting.ring.names ≤ 6)

-- a limit is from 1 to 60
abbrev pub HasLimit : Heads → Type 0
HasLimit Unopened = Unit {0}
HasLimit Opened = Unit {0}
HasLimit (Within setting) = (1 ≤ setting.limit) × (setting.limit ≤ 60)
