-- Where the instructions of a rewritten body come from (this project's profile).
use Rattle.std.specs.Prelude.{◌≡◌, ℕ, ◌<◌, true, false, List, [], ◌∷◌, map, length, Option, Some, None, slice_get}
use Rattle.program_model.specs.declared.body.Body.{Body}
use Rattle.program_model.specs.declared.pass.Origin.{Origin}
use Rattle.dalvik_defs.specs.declared.forms.Form.{Form}
use Rattle.dalvik_defs.specs.declared.program.NamedBody.{NamedBody}
use Rattle.pass_defs.specs.Bare.{may_throw}
use Rattle.pass_defs.specs.Remade.{variant_of}
use Rattle.pass_defs.specs.Thinned.{Fate, stays, origins_from, body_thinned}
use Rattle.pass_defs.specs.Walks.{form_at}

abbrev pub Ascends : List ℕ → Type 0
Ascends [] = Unit {0}
Ascends (n ∷ []) = Unit {0}
Ascends (n ∷ m ∷ ns) = (n < m) × Ascends (m ∷ ns)

-- A body that was thinned: it is what its fates leave, with all else as it was, each position that doesn't stay may go, and
-- the origins are the positions that are left. `gone` is what may go or be emptied: what is idle, and the calls that are
-- dropped.
pub record IsThinned (old new : Body) (origins : List ℕ) (gone : ℕ → Type 0) : Type 0 where
  pub fates : List Fate
  pub long : length fates ≡ length old.insns
  pub body : new ≡ body_thinned fates old
  pub left : origins ≡ origins_from 0 fates
  pub removed : (n : ℕ) (f : Fate) → slice_get fates n ≡ Some f → stays f ≡ false → gone n

-- A body that was rewritten in place: a form that may throw has the variant that the form there had before.
pub record IsRewritten (old new : NamedBody) : Type 0 where
  pub long : length new.forms ≡ length old.forms
  pub variants : (n : ℕ) (f g : Form) → form_at old n ≡ Some f → form_at new n ≡ Some g → may_throw g ≡ true → variant_of g ≡ variant_of f

-- ---- one after another

-- the origins of each method by its number; a method without a list, and a position past its end, has moved nowhere
abbrev pub Traces : Type 0
Traces = List (List Origin)

abbrev pub or_itself : Origin → Option Origin → Origin
or_itself o None = o
or_itself o (Some q) = q

abbrev pub traced_in : Origin → Option (List Origin) → Origin
traced_in o None = o
traced_in o (Some qs) = or_itself o (slice_get qs o.position)

-- a position of the body between, back in the one before
abbrev pub traced : Traces → Origin → Origin
traced first o = traced_in o (slice_get first o.method)

-- Origins of one rewriting and of one behind it. A rewriting that moves nothing has the empty list.
abbrev pub composed : Traces → Traces → Traces
composed first [] = first
composed first (os ∷ oss) = map (map (traced first)) (os ∷ oss)
