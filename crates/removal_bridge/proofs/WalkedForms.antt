-- A form reads, writes, throws and goes on as its instruction does.
use Rattle.std.proofs.Common.{◌≡◌, ℕ, zero, suc, ◌+◌, Bool, true, false, if◌then◌else◌, cond, List, [], ◌∷◌, ◌++◌, map, Option, Some, None, slice_get, refl, sym, ap, ◌∙◌}
use Rattle.std.specs.Prelude.{option_to_list, find, nat_le, nat_lt, ◌&&◌}
use Rattle.std.specs.Option.{option_map}
use Rattle.lemmas.proofs.Lists.{get_map}
use Rattle.insn_set.specs.declared.form.Insn.{Insn}
use Rattle.insn_set.specs.declared.form.Insn.TheVariants as insn
use Rattle.insn_set.specs.Registers.{reads_of, writes_of}
use Rattle.insn_set.specs.Flow.{throws, goes_on, targets_of}
use Rattle.program_model.specs.declared.body.Body.{Body}
use Rattle.program_model.specs.declared.body.Region.{Region}
use Rattle.program_model.specs.declared.body.Handler.{Handler}
use Rattle.program_model.specs.declared.program.Program.{Program}
use Rattle.dalvik_defs.specs.declared.forms.Form.{Form}
use Rattle.dalvik_defs.specs.Naming.{form_of, body_of, region_of, handler_of}
use Rattle.flow_cfg.specs.Walks.{next_of, handlers_in, handlers_at, covers, thrown_to, steps_of, successors_of}
use Rattle.pass_defs.specs.Bare.{reads, writes, may_throw, continues, targets}
use Rattle.pass_defs.specs.Walks as named
use Rattle.body_graph.specs.Walks as numbered

pub same_reads : (p : Program) (i : Insn) (r : ℕ) → reads (form_of p i) r ≡ reads_of i r
same_reads p insn.Nop r = refl
same_reads p i r = refl

pub same_writes : (p : Program) (i : Insn) (r : ℕ) → writes (form_of p i) r ≡ writes_of i r
same_writes p insn.Nop r = refl
same_writes p i r = refl

pub same_throws : (p : Program) (i : Insn) → may_throw (form_of p i) ≡ throws i
same_throws p insn.Nop = refl
same_throws p i = refl

pub same_continues : (p : Program) (i : Insn) → continues (form_of p i) ≡ goes_on i
same_continues p insn.Nop = refl
same_continues p i = refl

pub same_targets : (p : Program) (i : Insn) → targets (form_of p i) ≡ targets_of i
same_targets p insn.Nop = refl
same_targets p i = refl

-- ---- where a form goes

next_is : (b : Bool) (n : ℕ) → named.next_position b n ≡ (if b then (n + 1) ∷ [] else [])
next_is true n = refl
next_is false n = refl

pub same_onward : (p : Program) (i : Insn) (n : ℕ) → named.onward (form_of p i) n ≡ numbered.onward i n
same_onward p i n =
    ap (λ (b : Bool). named.next_position b n ++ targets (form_of p i)) (same_continues p i)
    ∙ ap (λ (l : List ℕ). l ++ targets (form_of p i)) (next_is (goes_on i) n)
    ∙ ap (λ (l : List ℕ). next_of n i ++ l) (same_targets p i)

same_positions : (p : Program) (hs : List Handler) → map (λ h. h.position) (map (handler_of p) hs) ≡ map (λ h. h.position) hs
same_positions p [] = refl
same_positions p (h ∷ hs) = ap (λ (l : List ℕ). h.position ∷ l) (same_positions p hs)

same_listed : (o : Option ℕ) → named.listed o ≡ option_to_list o
same_listed None = refl
same_listed (Some n) = refl

same_region : (p : Program) (r : Region) → named.handlers_of (Some (region_of p r)) ≡ handlers_in r
same_region p r = ap (λ (l : List ℕ). l ++ named.listed r.rest) (same_positions p r.handlers) ∙ ap (λ (l : List ℕ). map (λ h. h.position) r.handlers ++ l) (same_listed r.rest)

pub same_handlers : (p : Program) (rs : List Region) (n : ℕ) → named.handlers_of (find (named.is_covered n) (map (region_of p) rs)) ≡ handlers_at rs n
same_handlers p [] n = refl
same_handlers p (r ∷ rs) n = by (covers n r) (same_handlers p rs n)
  where
    by : (t : Bool) → named.handlers_of (find (named.is_covered n) (map (region_of p) rs)) ≡ handlers_at rs n
        → named.handlers_of (cond t (Some (region_of p r)) (find (named.is_covered n) (map (region_of p) rs))) ≡ (if t then handlers_in r else handlers_at rs n)
    by true again = same_region p r
    by false again = again

abbrev thrown_if : Program → Body → ℕ → Bool → List ℕ
thrown_if p b n t = elim t [ true ↦ named.handlers_at (body_of p b) n | false ↦ [] ]

thrown_is : (p : Program) (b : Body) (n : ℕ) (t : Bool) → thrown_if p b n t ≡ (if t then handlers_at b.regions n else [])
thrown_is p b n true = same_handlers p b.regions n
thrown_is p b n false = refl

pub same_caught : (p : Program) (b : Body) (i : Insn) (n : ℕ) → named.caught (body_of p b) (form_of p i) n ≡ numbered.caught b i n
same_caught p b i n = ap (thrown_if p b n) (same_throws p i) ∙ thrown_is p b n (throws i)

-- ---- what stands at a position

pub form_there : (p : Program) (b : Body) (n : ℕ) → named.form_at (body_of p b) n ≡ option_map (form_of p) (numbered.insn_at b n)
form_there p b n = get_map (form_of p) b.insns n

abbrev steps_for : Program → Body → ℕ → Option Form → List ℕ
steps_for p b n o = elim o [ Some f ↦ named.onward f n ++ named.caught (body_of p b) f n | None ↦ [] ]

pub same_successors : (p : Program) (b : Body) (n : ℕ) → named.successors (body_of p b) n ≡ successors_of b n
same_successors p b n = ap (steps_for p b n) (form_there p b n) ∙ by (slice_get b.insns n)
  where
    by : (o : Option Insn) → steps_for p b n (option_map (form_of p) o) ≡ steps_of b.regions n o
    by None = refl
    by (Some i) = ap (λ (l : List ℕ). l ++ named.caught (body_of p b) (form_of p i) n) (same_onward p i n) ∙ ap (λ (l : List ℕ). numbered.onward i n ++ l) (same_caught p b i n)
