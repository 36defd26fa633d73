-- A position that a walk from the entry reaches has kinds in a typing by numbers.
use Rattle.std.proofs.Common.{◌≡◌, ℕ, ◌<◌, List, length, Option, Some, None, Contains, inl, inr, refl, sym, subst}
use Rattle.std.specs.Prelude.{slice_get, All}
use Rattle.std.proofs.lemmas.List.Elements.{Contains-append_left, Contains-append_right, Contains-append_cases}
use Rattle.insn_set.specs.Flow.{targets_of}
use Rattle.insn_set.specs.declared.form.Insn.{Insn}
use Rattle.program_model.specs.declared.body.Body.{Body}
use Rattle.flow_cfg.specs.Walks.{next_of, successors_of}
use Rattle.body_graph.specs.Walks.{insn_at, onward, caught, Walk, IsReached}
use Rattle.body_graph.proofs.Links.{step_insn}
use Rattle.removal_bridge.proofs.Listed.{Image, image}
use Rattle.verify.specs.declared.kinds.Kind.{Kind}
use Rattle.verify.specs.declared.setting.Setting.{Setting}
use Rattle.verify.specs.Flow.{place_at, form_after}
use Rattle.verify.specs.Frames.{Kinds}
use Rattle.verify.specs.Typings.{AtMost, Arrives, Table, IsTyping, catches}
use Rattle.verify.specs.Typings as flow
use Rattle.type_bridge.proofs.Bodies.{got_short}
use Rattle.type_bridge.proofs.Programs.{index_at}
use Rattle.bodies_kept.proofs.Copies.{caught_places}

-- what holds of all items holds of one of them
all_there : {A : Type 0} (P : A → Type 0) (xs : List A) (x : A) → All P xs → Contains xs x → P x
all_there P xs x h c = subst P c.2 (h c.0 x c.1)

all_at : {A : Type 0} (P : A → Type 0) (xs : List A) (k : ℕ) (x : A) → All P xs → slice_get xs k ≡ Some x → P x
all_at P xs k x h e = subst P (index_at xs k x x e) (h k x (got_short xs k x e))

module _ (s : Setting) (b : Body) (entry : Kinds) (x : Table) (typing : IsTyping s b entry x) where
  abbrev pub Has : ℕ → Type 0
  Has n = (a : Kinds) × (place_at x n ≡ Some a)

  arrived : (n : ℕ) (a : Kinds) → n < length b.insns → Arrives s.tables.now x n a → Has n
  arrived n a lt h = by (place_at x n) refl (h (subst (λ k. n < k) (sym typing.long) lt))
    where
      by : (o : Option Kinds) → place_at x n ≡ o → AtMost s.tables.now (Some a) o → Has n
      by None e m = absurd m
      by (Some z) e m = (z, e)

  module _ (n m : ℕ) (a : Kinds) (here : place_at x n ≡ Some a) (i : Insn) (is : insn_at b n ≡ Some i) (inside : m < length b.insns) where
    goes : Contains (onward i n) m → Has m
    goes c = arrived m (form_after s n i a) inside (all_there (λ q. Arrives s.tables.now x q (form_after s n i a)) (flow.onward i n) m (typing.onward n i a is here) (swapped c))
      where
        swapped : Contains (onward i n) m → Contains (flow.onward i n) m
        swapped c = elim (Contains-append_cases (next_of n i) (targets_of i) m c) [
          | inl k ↦ Contains-append_right (targets_of i) (next_of n i) m k
          | inr t ↦ Contains-append_left (targets_of i) (next_of n i) m t
        ]

    thrown : Contains (caught b i n) m → Has m
    thrown c =
        let h : Image (λ (h : ℕ × Kind). h.0) (catches s.tables.now b i n) m = image (λ (h : ℕ × Kind). h.0) (catches s.tables.now b i n) m (subst (λ (l : List ℕ). Contains l m) (sym (caught_places s.tables.now b i n)) c) in
        let arrives : Arrives s.tables.now x h.entry.0 (record a { caught = h.entry.1 }) =
        all_at (λ (h : ℕ × Kind). Arrives s.tables.now x h.0 (record a { caught = h.1 })) (catches s.tables.now b i n) h.place h.entry (typing.caught n i a is here) h.is_entry in
        arrived m (record a { caught = h.entry.1 }) inside (subst (λ q. Arrives s.tables.now x q (record a { caught = h.entry.1 })) h.is arrives)

  stepped : (n m : ℕ) → Has n → Contains (successors_of b n) m → m < length b.insns → Has m
  stepped n m h c lt = let u = step_insn b n m c in elim u.2 as (λ t. Has m) [
    | inl o ↦ goes n m h.0 h.1 u.0 u.1 lt o
    | inr k ↦ thrown n m h.0 h.1 u.0 u.1 lt k
  ]

  inside : (n k : ℕ) → Walk (successors_of b) n k → k < length b.insns → n < length b.insns
  inside n _ (Walk.Stays _) lt = lt
  inside n k (Walk.Goes _ m _ c w) lt = let u = step_insn b n m c in got_short b.insns n u.0 u.1

  walked : (n k : ℕ) → Walk (successors_of b) n k → Has n → k < length b.insns → Has k
  walked n _ (Walk.Stays _) h lt = h
  walked n k (Walk.Goes _ m _ c w) h lt = walked m k w (stepped n m h c (inside m k w lt)) lt

  pub has_kinds : (n : ℕ) → IsReached b n → n < length b.insns → Has n
  has_kinds n r lt = walked 0 n r (arrived 0 entry (inside 0 n r lt) typing.begins) lt
