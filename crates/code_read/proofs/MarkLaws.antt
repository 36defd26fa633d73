-- What the marks say: which positions are among those that were marked.
use Rattle.std.proofs.Common.{◌≡◌, ℕ, ◌<◌, List, [], ◌∷◌, length, get_or, refl, sym, ap, subst, ◌∙◌, inl, inr}
use Rattle.std.specs.Prelude.{Bool, true, false, ◌||◌, nat_eq, Option, Some, None, replicate, slice_set}
use Rattle.std.specs.List.{list_any}
use Rattle.std.proofs.Math.Seq.{lt-length-set}
use Rattle.std.proofs.lemmas.List.{get_or-set_same, get_or-set_other, get_or-replicate, length-replicate}
use Rattle.std.proofs.lemmas.Option.{unwrap_or-slice_get}
use Rattle.std.proofs.lemmas.Bool.Decides.{eqb_tells}
use Rattle.insn_set.specs.Flow.{targets_of}
use Rattle.insn_set.specs.declared.form.Insn.{Insn}
use Rattle.program_model.specs.declared.body.Handler.{Handler}
use Rattle.program_model.specs.declared.body.Region.{Region}
use Rattle.code_read.specs.Marks.{set_all, set_targets, set_handlers, set_rest, set_region, set_regions, is_marked, goes_to, is_target, is_rest, catches_at, is_handler}

or_false : (b : Bool) → (b || false) ≡ b
or_false true = refl
or_false false = refl

or_true : (b : Bool) → (b || true) ≡ true
or_true true = refl
or_true false = refl

or_assoc : (a b c : Bool) → ((a || b) || c) ≡ (a || (b || c))
or_assoc true b c = refl
or_assoc false b c = refl

-- one more mark
marked_one : (m : List Bool) (p k : ℕ) → k < length m → get_or (slice_set m p true) k false ≡ (get_or m k false || nat_eq p k)
marked_one m p k lt = elim (eqb_tells p k) [
  | inl e ↦ subst (λ (q : ℕ). get_or (slice_set m q true) k false ≡ true) (sym e.1) (get_or-set_same m k true false lt)
      ∙ sym (ap (λ (b : Bool). get_or m k false || b) e.0 ∙ or_true (get_or m k false))
  | inr e ↦ get_or-set_other m p k true false (λ h. e.1 (sym h))
      ∙ sym (ap (λ (b : Bool). get_or m k false || b) e.0 ∙ or_false (get_or m k false))
]

marked_all : (m : List Bool) (ps : List ℕ) (k : ℕ) → k < length m → get_or (set_all m ps) k false ≡ (get_or m k false || list_any (λ t. nat_eq t k) ps)
marked_all m [] k lt = sym (or_false (get_or m k false))
marked_all m (p ∷ ps) k lt = marked_all (slice_set m p true) ps k (lt-length-set m p true lt)
    ∙ ap (λ (b : Bool). b || list_any (λ t. nat_eq t k) ps) (marked_one m p k lt)
    ∙ or_assoc (get_or m k false) (nat_eq p k) (list_any (λ t. nat_eq t k) ps)

lt_all : (m : List Bool) (ps : List ℕ) (k : ℕ) → k < length m → k < length (set_all m ps)
lt_all m [] k lt = lt
lt_all m (p ∷ ps) k lt = lt_all (slice_set m p true) ps k (lt-length-set m p true lt)

marked_targets : (m : List Bool) (insns : List Insn) (k : ℕ) → k < length m → get_or (set_targets m insns) k false ≡ (get_or m k false || list_any (goes_to k) insns)
marked_targets m [] k lt = sym (or_false (get_or m k false))
marked_targets m (i ∷ is) k lt = marked_targets (set_all m (targets_of i)) is k (lt_all m (targets_of i) k lt)
    ∙ ap (λ (b : Bool). b || list_any (goes_to k) is) (marked_all m (targets_of i) k lt)
    ∙ or_assoc (get_or m k false) (goes_to k i) (list_any (goes_to k) is)

marked_handlers : (m : List Bool) (hs : List Handler) (k : ℕ) → k < length m → get_or (set_handlers m hs) k false ≡ (get_or m k false || list_any (λ h. nat_eq h.position k) hs)
marked_handlers m [] k lt = sym (or_false (get_or m k false))
marked_handlers m (h ∷ hs) k lt = marked_handlers (slice_set m h.position true) hs k (lt-length-set m h.position true lt)
    ∙ ap (λ (b : Bool). b || list_any (λ (h : Handler). nat_eq h.position k) hs) (marked_one m h.position k lt)
    ∙ or_assoc (get_or m k false) (nat_eq h.position k) (list_any (λ (h : Handler). nat_eq h.position k) hs)

lt_handlers : (m : List Bool) (hs : List Handler) (k : ℕ) → k < length m → k < length (set_handlers m hs)
lt_handlers m [] k lt = lt
lt_handlers m (h ∷ hs) k lt = lt_handlers (slice_set m h.position true) hs k (lt-length-set m h.position true lt)

marked_rest : (m : List Bool) (rest : Option ℕ) (k : ℕ) → k < length m → get_or (set_rest m rest) k false ≡ (get_or m k false || is_rest rest k)
marked_rest m None k lt = sym (or_false (get_or m k false))
marked_rest m (Some p) k lt = marked_one m p k lt

lt_rest : (m : List Bool) (rest : Option ℕ) (k : ℕ) → k < length m → k < length (set_rest m rest)
lt_rest m None k lt = lt
lt_rest m (Some p) k lt = lt-length-set m p true lt

marked_region : (m : List Bool) (r : Region) (k : ℕ) → k < length m → get_or (set_region m r) k false ≡ (get_or m k false || catches_at k r)
marked_region m r k lt = marked_rest (set_handlers m r.handlers) r.rest k (lt_handlers m r.handlers k lt)
    ∙ ap (λ (b : Bool). b || is_rest r.rest k) (marked_handlers m r.handlers k lt)
    ∙ or_assoc (get_or m k false) (list_any (λ (h : Handler). nat_eq h.position k) r.handlers) (is_rest r.rest k)

lt_region : (m : List Bool) (r : Region) (k : ℕ) → k < length m → k < length (set_region m r)
lt_region m r k lt = lt_rest (set_handlers m r.handlers) r.rest k (lt_handlers m r.handlers k lt)

marked_regions : (m : List Bool) (rs : List Region) (k : ℕ) → k < length m → get_or (set_regions m rs) k false ≡ (get_or m k false || list_any (catches_at k) rs)
marked_regions m [] k lt = sym (or_false (get_or m k false))
marked_regions m (r ∷ rs) k lt = marked_regions (set_region m r) rs k (lt_region m r k lt)
    ∙ ap (λ (b : Bool). b || list_any (catches_at k) rs) (marked_region m r k lt)
    ∙ or_assoc (get_or m k false) (catches_at k r) (list_any (catches_at k) rs)

in_replicate : (n k : ℕ) → k < n → k < length (replicate n false)
in_replicate n k lt = subst (λ (l : ℕ). k < l) (sym (length-replicate n false)) lt

-- a position is marked exactly where a branch goes to it
pub targets_say : (n : ℕ) (insns : List Insn) (k : ℕ) → k < n → is_marked (set_targets (replicate n false) insns) k ≡ is_target insns k
targets_say n insns k lt = unwrap_or-slice_get (set_targets (replicate n false) insns) k false
    ∙ marked_targets (replicate n false) insns k (in_replicate n k lt)
    ∙ ap (λ (b : Bool). b || list_any (goes_to k) insns) (get_or-replicate n k false false lt)

-- a position is marked exactly where a handler or a catch-all begins at it
pub handlers_say : (n : ℕ) (regions : List Region) (k : ℕ) → k < n → is_marked (set_regions (replicate n false) regions) k ≡ is_handler regions k
handlers_say n regions k lt = unwrap_or-slice_get (set_regions (replicate n false) regions) k false
    ∙ marked_regions (replicate n false) regions k (in_replicate n k lt)
    ∙ ap (λ (b : Bool). b || list_any (catches_at k) regions) (get_or-replicate n k false false lt)
