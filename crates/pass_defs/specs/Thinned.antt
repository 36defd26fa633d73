-- A body without some of its positions, by name and by number: all others move up, and targets, regions and handlers follow
-- (this project's profile).
use Rattle.std.specs.Prelude.{ℕ, zero, suc, Bool, true, false, ◌&&◌, List, [], ◌∷◌, length, map, filter, nat_lt, Option, Some, None}
use Rattle.std.specs.List.{list_all}
use Rattle.std.specs.Option.{option_map}
use Rattle.insn_set.specs.declared.form.Insn.{Insn}
use Rattle.insn_set.specs.declared.form.Insn.TheVariants as insn
use Rattle.program_model.specs.declared.body.Body.{Body}
use Rattle.program_model.specs.declared.body.Region.{Region}
use Rattle.program_model.specs.declared.body.Handler.{Handler}
use Rattle.dalvik_defs.specs.declared.forms.Form.{Form}
use Rattle.dalvik_defs.specs.declared.forms.Form.TheVariants as form
use Rattle.dalvik_defs.specs.declared.program.NamedHandler.{NamedHandler}
use Rattle.dalvik_defs.specs.declared.program.NamedRegion.{NamedRegion}
use Rattle.dalvik_defs.specs.declared.program.NamedBody.{NamedBody}
use Rattle.pass_defs.specs.Remade.{retargeted}

-- a position stays, becomes a nop, or goes
pub data Fate : Type 0 where
  Stays : Fate
  Empties : Fate
  Goes : Fate

abbrev pub stays : Fate → Bool
stays Stays = true
stays f = false

-- where a position goes: as many stand before it as stay or become nops
abbrev pub place : List Fate → ℕ → ℕ
place [] n = n
place (f ∷ fs) zero = 0
place (Goes ∷ fs) (suc n) = place fs n
place (f ∷ fs) (suc n) = suc (place fs n)

-- the positions that are left, from a number on
abbrev pub origins_from : ℕ → List Fate → List ℕ
origins_from k [] = []
origins_from k (Goes ∷ fs) = origins_from (suc k) fs
origins_from k (f ∷ fs) = k ∷ origins_from (suc k) fs

-- what stays of a list that has an entry for each position
abbrev pub left : {A : Type 0} → List Fate → List A → List A
left fs [] = []
left [] (x ∷ xs) = []
left (Goes ∷ fs) (x ∷ xs) = left fs xs
left (f ∷ fs) (x ∷ xs) = x ∷ left fs xs

-- ---- by name

abbrev pub forms_left : (ℕ → ℕ) → List Fate → List Form → List Form
forms_left at fs [] = []
forms_left at [] (x ∷ xs) = []
forms_left at (Stays ∷ fs) (x ∷ xs) = retargeted at x ∷ forms_left at fs xs
forms_left at (Empties ∷ fs) (x ∷ xs) = form.Nop ∷ forms_left at fs xs
forms_left at (Goes ∷ fs) (x ∷ xs) = forms_left at fs xs

abbrev pub moved_handler : (ℕ → ℕ) → NamedHandler → NamedHandler
moved_handler at h = record h { position = at h.position }

abbrev pub moved : (ℕ → ℕ) → NamedRegion → NamedRegion
moved at r = record { first = at r.first; end = at r.end; handlers = map (moved_handler at) r.handlers; rest = option_map at r.rest }

abbrev pub rest_before : ℕ → Option ℕ → Bool
rest_before end None = true
rest_before end (Some n) = nat_lt n end

-- a region covers something, and its handlers stand before an end
abbrev pub has_room : ℕ → NamedRegion → Bool
has_room end r = nat_lt r.first r.end && (list_all (λ h. nat_lt h.position end) r.handlers && rest_before end r.rest)

-- A region that covers nothing is left out, and so is one with a handler that comes to stand behind the last position: no
-- position that it covers leads there.
abbrev pub thinned : List Fate → NamedBody → NamedBody
thinned fs b = record b {
  forms = forms_left (place fs) fs b.forms;
  regions = filter (has_room (length (forms_left (place fs) fs b.forms))) (map (moved (place fs)) b.regions);
}

-- ---- by number

abbrev pub insn_retargeted : (ℕ → ℕ) → Insn → Insn
insn_retargeted t (insn.Goto target) = insn.Goto (t target)
insn_retargeted t (insn.PackedSwitch on first targets) = insn.PackedSwitch on first (map t targets)
insn_retargeted t (insn.SparseSwitch on keys targets) = insn.SparseSwitch on keys (map t targets)
insn_retargeted t (insn.If test a b target) = insn.If test a b (t target)
insn_retargeted t (insn.IfZero test a target) = insn.IfZero test a (t target)
insn_retargeted t i = i

abbrev pub insns_left : (ℕ → ℕ) → List Fate → List Insn → List Insn
insns_left at fs [] = []
insns_left at [] (x ∷ xs) = []
insns_left at (Stays ∷ fs) (x ∷ xs) = insn_retargeted at x ∷ insns_left at fs xs
insns_left at (Empties ∷ fs) (x ∷ xs) = insn.Nop ∷ insns_left at fs xs
insns_left at (Goes ∷ fs) (x ∷ xs) = insns_left at fs xs

abbrev pub handler_moved : (ℕ → ℕ) → Handler → Handler
handler_moved at h = record h { position = at h.position }

abbrev pub region_moved : (ℕ → ℕ) → Region → Region
region_moved at r = record { first = at r.first; end = at r.end; handlers = map (handler_moved at) r.handlers; rest = option_map at r.rest }

abbrev pub region_has_room : ℕ → Region → Bool
region_has_room end r = nat_lt r.first r.end && (list_all (λ h. nat_lt h.position end) r.handlers && rest_before end r.rest)

abbrev pub body_thinned : List Fate → Body → Body
body_thinned fs b = record b {
  insns = insns_left (place fs) fs b.insns;
  regions = filter (region_has_room (length (insns_left (place fs) fs b.insns))) (map (region_moved (place fs)) b.regions);
}
