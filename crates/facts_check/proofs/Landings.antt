-- What lands at the beginnings of blocks.
use Rattle.std.proofs.Common.{◌≡◌, ℕ, zero, suc, ◌+◌, true, false, List, [], ◌∷◌, ◌++◌, Option, Some, None, inl, inr, refl, subst, arith}
use Rattle.std.specs.Prelude.{map, slice_get, option_to_list, Contains}
use Rattle.insn_set.specs.declared.form.Insn.{Insn}
use Rattle.program_model.specs.declared.body.Handler.{Handler}
use Rattle.program_model.specs.declared.body.Region.{Region}
use Rattle.flow_cfg.specs.Walks.{handlers_in}
use Rattle.dom_frame.specs.Registers.{Registers}
use Rattle.dom_frame.specs.Steps.{branched, switched, unswitched}
use Rattle.closed_facts.specs.Tables.{AreBelow}
use Rattle.closed_facts.specs.Edges.{arm, cases_from, both_ways}
use Rattle.facts_check.specs.declared.starts.Start.{Start}
use Rattle.facts_check.specs.declared.starts.Start.TheVariants.{Inside, Idle, Comes}
use Rattle.facts_check.specs.Landing.{Lands, LandsIf, EachLands, Goes, EachGoes}
use Rattle.facts_check.specs.Tables.{HandlersLand, CasesLand}

lands_both : (starts : List Start) (x : Registers) (qs rs : List ℕ) → EachLands starts x qs → EachLands starts x rs → EachLands starts x (qs ++ rs)
lands_both starts x [] rs h l = l
lands_both starts x (q ∷ qs) rs h l = (h.0, lands_both starts x qs rs h.1 l)

each_handler : (starts : List Start) (x : Registers) (hs : List Handler) → HandlersLand starts x hs → EachLands starts x (map (λ h. h.position) hs)
each_handler starts x [] h = tt
each_handler starts x (y ∷ ys) h = (h 0 y refl, each_handler starts x ys (λ i z e. h (suc i) z e))

pub handlers_land : (starts : List Start) (x : Registers) (r : Region) → HandlersLand starts x r.handlers → EachLands starts x (option_to_list r.rest) → EachLands starts x (handlers_in r)
handlers_land starts x r h l = lands_both starts x (map (λ h. h.position) r.handlers) (option_to_list r.rest) (each_handler starts x r.handlers h) l

-- ---- edges

goes_both : (starts : List Start) (n : ℕ) (next : Option Registers) (qs rs : List (ℕ × Registers)) → EachGoes starts n next qs → EachGoes starts n next rs → EachGoes starts n next (qs ++ rs)
goes_both starts n next [] rs h l = l
goes_both starts n next (q ∷ qs) rs h l = (h.0, goes_both starts n next qs rs h.1 l)

-- what is handed on goes to the next position
pub step_goes : (starts : List Start) (n : ℕ) (next : Option Registers) → EachGoes starts n next (arm (n + 1) next)
step_goes starts n None = tt
step_goes starts n (Some x) = (inr (refl, refl), tt)

arm_lands : (starts : List Start) (n target : ℕ) (next o : Option Registers) → LandsIf (slice_get starts target) o → EachGoes starts n next (arm target o)
arm_lands starts n target next None h = tt
arm_lands starts n target next (Some x) h = (inl h, tt)

pub branch_goes : (starts : List Start) (n target : ℕ) (i : Insn) (x : Registers) → LandsIf (slice_get starts target) (branched true i x) → EachGoes starts n (branched false i x) (both_ways n i target x)
branch_goes starts n target i x h = goes_both starts n (branched false i x) (arm (n + 1) (branched false i x)) (arm target (branched true i x)) (step_goes starts n (branched false i x)) (arm_lands starts n target (branched false i x) (branched true i x) h)

cases_go : (starts : List Start) (n place : ℕ) (i : Insn) (targets : List ℕ) (x : Registers) (next : Option Registers)
    → ((j target : ℕ) → slice_get targets j ≡ Some target → LandsIf (slice_get starts target) (switched (place + j) i x)) → EachGoes starts n next (cases_from place i targets x)
cases_go starts n place i [] x next h = tt
cases_go starts n place i (t ∷ ts) x next h =
    let first : LandsIf (slice_get starts t) (switched place i x) = (let e : place + 0 ≡ place = omega arith in subst (λ m. LandsIf (slice_get starts t) (switched m i x)) e (h 0 t refl)) in
    goes_both starts n next (arm t (switched place i x)) (cases_from (place + 1) i ts x) (arm_lands starts n t next (switched place i x) first)
    (cases_go starts n (place + 1) i ts x next (λ j u e. let l : place + suc j ≡ place + 1 + j = omega arith in subst (λ m. LandsIf (slice_get starts u) (switched m i x)) l (h (suc j) u e)))

pub switch_goes : (starts : List Start) (n : ℕ) (i : Insn) (targets : List ℕ) (x : Registers) → CasesLand starts i targets x → EachGoes starts n (unswitched i x) (arm (n + 1) (unswitched i x) ++ cases_from 0 i targets x)
switch_goes starts n i targets x h = goes_both starts n (unswitched i x) (arm (n + 1) (unswitched i x)) (cases_from 0 i targets x) (step_goes starts n (unswitched i x))
    (cases_go starts n 0 i targets x (unswitched i x) (λ j t e. let l : j ≡ 0 + j = omega arith in subst (λ m. LandsIf (slice_get starts t) (switched m i x)) l (h j t e)))

-- ---- reading them

pub record IsLanded (starts : List Start) (q : ℕ) (x : Registers) : Type 0 where
  pub known : Registers
  pub is : slice_get starts q ≡ Some (Comes known)
  pub below : AreBelow x known

pub landed : (starts : List Start) (q : ℕ) (x : Registers) → Lands (slice_get starts q) x → IsLanded starts q x
landed starts q x h = by (slice_get starts q) refl h
  where
    by : (s : Option Start) → slice_get starts q ≡ s → Lands s x → IsLanded starts q x
    by None e h = absurd h
    by (Some Inside) e h = absurd h
    by (Some Idle) e h = absurd h
    by (Some (Comes y)) e h = record { known = y; is = e; below = h }

pub one_lands : (starts : List Start) (x : Registers) (qs : List ℕ) (q : ℕ) → EachLands starts x qs → Contains qs q → Lands (slice_get starts q) x
one_lands starts x [] q h (j, lt, e) = absurd (omega arith)
one_lands starts x (r ∷ rs) q h (zero, lt, e) = subst (λ q. Lands (slice_get starts q) x) e h.0
one_lands starts x (r ∷ rs) q h (suc j, lt, e) = one_lands starts x rs q h.1 (j, omega arith, e)

pub one_goes : (starts : List Start) (n : ℕ) (next : Option Registers) (qs : List (ℕ × Registers)) (q : ℕ × Registers) → EachGoes starts n next qs → Contains qs q → Goes starts n next q
one_goes starts n next [] q h (j, lt, e) = absurd (omega arith)
one_goes starts n next (r ∷ rs) q h (zero, lt, e) = subst (Goes starts n next) e h.0
one_goes starts n next (r ∷ rs) q h (suc j, lt, e) = one_goes starts n next rs q h.1 (j, omega arith, e)
