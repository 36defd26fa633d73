-- Which positions a branch goes to, and at which a handler begins: a mark for each position.
use Rattle.std.specs.Prelude.{ℕ, Bool, true, false, ◌||◌, nat_eq, List, [], ◌∷◌, Option, Some, None, slice_get, slice_set, unwrap_or}
use Rattle.std.specs.List.{list_any}
use Rattle.insn_set.specs.declared.form.Insn.{Insn}
use Rattle.insn_set.specs.Flow.{targets_of}
use Rattle.program_model.specs.declared.body.Handler.{Handler}
use Rattle.program_model.specs.declared.body.Region.{Region}

-- with these positions marked too
abbrev pub set_all : List Bool → List ℕ → List Bool
set_all marks [] = marks
set_all marks (p ∷ ps) = set_all (slice_set marks p true) ps

-- with what the instructions go to marked too
abbrev pub set_targets : List Bool → List Insn → List Bool
set_targets marks [] = marks
set_targets marks (insn ∷ insns) = set_targets (set_all marks (targets_of insn)) insns

-- with where the handlers begin marked too
abbrev pub set_handlers : List Bool → List Handler → List Bool
set_handlers marks [] = marks
set_handlers marks (h ∷ hs) = set_handlers (slice_set marks h.position true) hs

abbrev pub set_rest : List Bool → Option ℕ → List Bool
set_rest marks None = marks
set_rest marks (Some p) = slice_set marks p true

abbrev pub set_region : List Bool → Region → List Bool
set_region marks region = set_rest (set_handlers marks region.handlers) region.rest

abbrev pub set_regions : List Bool → List Region → List Bool
set_regions marks [] = marks
set_regions marks (region ∷ regions) = set_regions (set_region marks region) regions

-- whether a position is marked
abbrev pub is_marked : List Bool → ℕ → Bool
is_marked marks place = unwrap_or (slice_get marks place) false

-- whether an instruction goes to a position, and whether one of them does
abbrev pub goes_to : ℕ → Insn → Bool
goes_to k insn = list_any (λ t. nat_eq t k) (targets_of insn)

abbrev pub is_target : List Insn → ℕ → Bool
is_target insns k = list_any (goes_to k) insns

-- whether a handler or the catch-all of a region begins at a position, and whether that of one of them does
abbrev pub is_rest : Option ℕ → ℕ → Bool
is_rest None k = false
is_rest (Some p) k = nat_eq p k

abbrev pub catches_at : ℕ → Region → Bool
catches_at k region = list_any (λ h. nat_eq h.position k) region.handlers || is_rest region.rest k

abbrev pub is_handler : List Region → ℕ → Bool
is_handler regions k = list_any (catches_at k) regions
