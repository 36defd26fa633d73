-- Origins of a thinned body ascend, and a body thinned by number names the body thinned by name.
use Rattle.std.proofs.Common.{◌≡◌, ℕ, suc, ◌<◌, Bool, true, false, true≢false, List, [], ◌∷◌, refl, sym, ap, ◌∙◌, arith}
use Rattle.std.specs.Prelude.{◌&&◌, length, map, filter, nat_lt}
use Rattle.std.specs.List.{list_all}
use mathlib.Core.Bool.{cond}
use Rattle.insn_set.specs.declared.form.Insn.{Insn}
use Rattle.insn_set.specs.declared.form.Insn.TheVariants as insn
use Rattle.program_model.specs.declared.program.Program.{Program}
use Rattle.program_model.specs.declared.body.Body.{Body}
use Rattle.program_model.specs.declared.body.Region.{Region}
use Rattle.program_model.specs.declared.body.Handler.{Handler}
use Rattle.dalvik_defs.specs.Naming.{type_at, method_at, form_of, handler_of, region_of, body_of}
use Rattle.dalvik_defs.specs.declared.forms.Form.TheVariants as form
use Rattle.pass_defs.specs.Remade.{retargeted}
use Rattle.pass_defs.specs.Thinned.{Fate, Stays, Empties, Goes, place, origins_from, forms_left, moved_handler, moved, rest_before, has_room, thinned, insn_retargeted, insns_left, handler_moved, region_moved, region_has_room, body_thinned}
use Rattle.pass_defs.specs.Origins.{Ascends}

rises : (k : ℕ) (fs : List Fate) (j : ℕ) → j < suc k → Ascends (j ∷ []) → Ascends (origins_from (suc k) fs) → Ascends (j ∷ origins_from (suc k) fs)
rises k [] j l a h = tt
rises k (Goes ∷ fs) j l a h = rises (suc k) fs j (omega (arith, l)) a h
rises k (Stays ∷ fs) j l a h = (l, h)
rises k (Empties ∷ fs) j l a h = (l, h)

pub origins_ascend : (k : ℕ) (fs : List Fate) → Ascends (origins_from k fs)
origins_ascend k [] = tt
origins_ascend k (Goes ∷ fs) = origins_ascend (suc k) fs
origins_ascend k (Stays ∷ fs) = rises k fs k (omega arith) tt (origins_ascend (suc k) fs)
origins_ascend k (Empties ∷ fs) = rises k fs k (omega arith) tt (origins_ascend (suc k) fs)

-- ---- by number and by name

all_kept : (ns : List ℕ) → map (λ n. n) ns ≡ ns
all_kept [] = refl
all_kept (n ∷ ns) = ap (λ l. n ∷ l) (all_kept ns)

module _ (p : Program) (t : ℕ → ℕ) where
  form_same : (i : Insn) → form_of p (insn_retargeted t i) ≡ retargeted t (form_of p i)
  form_same (insn.Goto target) = refl
  form_same (insn.FilledNewArray kind args) = ap (λ l. form.FilledNewArray (type_at p kind) l) (sym (all_kept args))
  form_same (insn.Invoke kind method args) = ap (λ l. form.Invoke kind (method_at p method) l) (sym (all_kept args))
  form_same i = refl

  forms_same : (ms : List Fate) (xs : List Insn) → map (form_of p) (insns_left t ms xs) ≡ forms_left t ms (map (form_of p) xs)
  forms_same ms [] = refl
  forms_same [] (x ∷ xs) = refl
  forms_same (Stays ∷ ms) (x ∷ xs) = ap (λ f. f ∷ map (form_of p) (insns_left t ms xs)) (form_same x) ∙ ap (λ l. retargeted t (form_of p x) ∷ l) (forms_same ms xs)
  forms_same (Empties ∷ ms) (x ∷ xs) = ap (λ l. form.Nop ∷ l) (forms_same ms xs)
  forms_same (Goes ∷ ms) (x ∷ xs) = forms_same ms xs

  handlers_same : (hs : List Handler) → map (handler_of p) (map (handler_moved t) hs) ≡ map (moved_handler t) (map (handler_of p) hs)
  handlers_same [] = refl
  handlers_same (h ∷ hs) = ap (λ l. moved_handler t (handler_of p h) ∷ l) (handlers_same hs)

  region_same : (r : Region) → region_of p (region_moved t r) ≡ moved t (region_of p r)
  region_same r = ap (λ hs. record { first = t r.first; end = t r.end; handlers = hs; rest = (region_moved t r).rest }) (handlers_same r.handlers)

  before_same : (end : ℕ) (hs : List Handler) → list_all (λ h. nat_lt h.position end) (map (handler_of p) hs) ≡ list_all (λ h. nat_lt h.position end) hs
  before_same end [] = refl
  before_same end (h ∷ hs) = ap (λ b. nat_lt h.position end && b) (before_same end hs)

  room_same : (end : ℕ) (r : Region) → has_room end (region_of p r) ≡ region_has_room end r
  room_same end r = ap (λ b. nat_lt r.first r.end && (b && rest_before end r.rest)) (before_same end r.handlers)

  regions_same : (end : ℕ) (rs : List Region) → map (region_of p) (filter (region_has_room end) (map (region_moved t) rs)) ≡ filter (has_room end) (map (moved t) (map (region_of p) rs))
  regions_same end [] = refl
  regions_same end (r ∷ rs) = by (region_has_room end (region_moved t r)) (has_room end (moved t (region_of p r))) (sym (room_same end (region_moved t r)) ∙ ap (has_room end) (region_same r)) (region_same r) (regions_same end rs)
    where
      by : (b c : Bool) → b ≡ c → region_of p (region_moved t r) ≡ moved t (region_of p r) → map (region_of p) (filter (region_has_room end) (map (region_moved t) rs)) ≡ filter (has_room end) (map (moved t) (map (region_of p) rs))
          → map (region_of p) (cond b (region_moved t r ∷ filter (region_has_room end) (map (region_moved t) rs)) (filter (region_has_room end) (map (region_moved t) rs)))
          ≡ cond c (moved t (region_of p r) ∷ filter (has_room end) (map (moved t) (map (region_of p) rs))) (filter (has_room end) (map (moved t) (map (region_of p) rs)))
      by true true same e i = ap (λ x. x ∷ map (region_of p) (filter (region_has_room end) (map (region_moved t) rs))) e ∙ ap (λ l. moved t (region_of p r) ∷ l) i
      by false false same e i = i
      by true false same e i = absurd (true≢false same)
      by false true same e i = absurd (true≢false (sym same))

  long_same : (xs : List Insn) → length (map (form_of p) xs) ≡ length xs
  long_same [] = refl
  long_same (x ∷ xs) = ap suc (long_same xs)

module _ (p : Program) (ms : List Fate) (b : Body) where
  end_same : length (insns_left (place ms) ms b.insns) ≡ length (forms_left (place ms) ms (map (form_of p) b.insns))
  end_same = sym (long_same p (place ms) (insns_left (place ms) ms b.insns)) ∙ ap length (forms_same p (place ms) ms b.insns)

pub named_thinned : (p : Program) (ms : List Fate) (b : Body) → body_of p (body_thinned ms b) ≡ thinned ms (body_of p b)
named_thinned p ms b = ap (λ fs. record { registers = b.registers; ins = b.ins; forms = fs; regions = (body_of p (body_thinned ms b)).regions }) (forms_same p (place ms) ms b.insns)
    ∙ ap (λ rs. record { registers = b.registers; ins = b.ins; forms = forms_left (place ms) ms (map (form_of p) b.insns); regions = rs })
    (regions_same p (place ms) (length (insns_left (place ms) ms b.insns)) b.regions
    ∙ ap (λ end. filter (has_room end) (map (moved (place ms)) (map (region_of p) b.regions))) (end_same p ms b))
