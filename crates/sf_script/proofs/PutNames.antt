-- A write at the place of a client is an insertion under its name.
use Rattle.std.proofs.Common.{◌≡◌, ℕ, zero, suc, List, [], ◌∷◌, position, slice_get, Some, sym, ap, ◌∙◌}
use Rattle.std.specs.Map.{keys_of, values_of, lookup}
use Rattle.std.specs.Option.{unwrap_or}
use Rattle.std.specs.Str.{bytes_eq}
use Rattle.indexmap.specs.IndexMap.{insert_entry, set_value_at}
use Rattle.indexmap.proofs.MapLemmas.{Found-position, insert_entry-first}
use Rattle.sf_script.specs.Names.{names_of}
use Rattle.sf_script.specs.declared.named.Named.{Named}

-- a value that is written to its own place changes nothing
pub set_value_at-same : {K X : Type 0} (es : List (K × X)) (i : ℕ) (x : X) → slice_get (values_of es) i ≡ Some x
    → set_value_at es i x ≡ es
set_value_at-same [] i x e = cc
set_value_at-same (f ∷ es) zero x e = let same : f.1 ≡ x = cc in ap (λ y. (f.0, y) ∷ es) (sym same)
set_value_at-same (f ∷ es) (suc i) x e = ap (λ l. f ∷ l) (set_value_at-same es i x e)

-- the value at a client's place is its names, and a name that is put there is put among the client's
pub set_value_at-put : (clients : List (List ℕ × List (List ℕ × Named))) (client name : List ℕ) (what : Named) (place : ℕ)
    (names new : List (List ℕ × Named)) → Some place ≡ position (bytes_eq client) (keys_of clients)
    → slice_get (values_of clients) place ≡ lookup (bytes_eq client) clients
    → Some names ≡ slice_get (values_of clients) place
    → new ≡ insert_entry bytes_eq names name what
    → set_value_at clients place new
    ≡ insert_entry bytes_eq clients client (insert_entry bytes_eq (names_of client clients) name what)
set_value_at-put clients client name what place names new first value found entries =
    let own : names ≡ names_of client clients = ap (λ o. unwrap_or o []) (found ∙ value) in
    let put : new ≡ insert_entry bytes_eq (names_of client clients) name what =
    entries ∙ ap (λ ns. insert_entry bytes_eq ns name what) own in
    ap (set_value_at clients place) put
    ∙ sym
    (insert_entry-first bytes_eq client _ clients place
    (Found-position (bytes_eq client) clients place (sym first)).first)
