-- The accepted positions are those at which a method is chosen, and what is found there by name is what is chosen.
use Rattle.std.proofs.Common.{◌≡◌, ℕ, zero, suc, ◌+◌, ◌<◌, ◌≤◌, Bool, true, false, true≢false, List, [], ◌∷◌, refl, sym, ap, ap₂, ◌∙◌, subst, arith}
use Rattle.std.specs.Prelude.{◌||◌, ◌&&◌, if◌then◌else◌, max, nat_eq, Option, Some, None, is_some, slice_get, slice_index_or}
use Rattle.std.specs.List.{list_any}
use Rattle.std.specs.Option.{option_map}
use Rattle.std.proofs.lemmas.Bool.{eqb-true, eq-eqb}
use Rattle.lemmas.proofs.Lists.{get_map}
use Rattle.lemmas.proofs.Options.{none_some, some_same}
use Rattle.insn_set.specs.declared.form.Insn.{Insn}
use Rattle.insn_set.specs.declared.form.Insn.TheVariants as insn
use Rattle.program_model.specs.declared.body.Body.{Body}
use Rattle.program_model.specs.declared.program.Program.{Program}
use Rattle.dalvik_defs.specs.Naming.{form_of, body_of, named}
use Rattle.dalvik_defs.specs.declared.forms.Form.{Form}
use Rattle.dalvik_defs.specs.declared.program.NamedBody.{NamedBody}
use Rattle.dalvik_defs.specs.declared.program.NamedProgram.{NamedProgram}
use Rattle.pass_defs.specs.Walks.{form_at}
use Rattle.pass_defs.specs.Inlined.{callee_of, is_among, callee_at, callee_registers}
use Rattle.pass_defs.specs.Inlined as by_name
use Rattle.splice.specs.declared.callee.Callee.{Callee}
use Rattle.splice.specs.Callees.{chosen_at, Taken, taken_by, is_dropped, registers_of, greatest}
use Rattle.calls_kept.specs.Copied.{accepted_from, accepted_by, IsNamed, IsCopied, AreCopied}

apart : (n m : ℕ) → (n ≡ m → ⊥) → nat_eq n m ≡ false
apart n m d = by (nat_eq n m) refl
  where
    by : (b : Bool) → nat_eq n m ≡ b → b ≡ false
    by true e = absurd (d (eqb-true n m e))
    by false e = refl

-- ---- positions

before : (cs : List (Option Callee)) (m n : ℕ) → n < m → is_among (accepted_from m cs) n ≡ false
before [] m n l = refl
before (None ∷ cs) m n l = before cs (suc m) n (omega (arith, l))
before (Some c ∷ cs) m n l = ap₂ (λ a b. a || b) (apart n m (λ e. omega (arith, e, l))) (before cs (suc m) n (omega (arith, l)))

among_from : (cs : List (Option Callee)) (m j n : ℕ) → n ≡ m + j → is_among (accepted_from m cs) n ≡ is_some (chosen_at cs j)
among_from [] m j n e = refl
among_from (None ∷ cs) m zero n e = before cs (suc m) n (omega (arith, e))
among_from (None ∷ cs) m (suc j) n e = among_from cs (suc m) j n (omega (arith, e))
among_from (Some c ∷ cs) m zero n e = let q : n ≡ m = omega (arith, e) in ap (λ b. b || is_among (accepted_from (suc m) cs) n) (eq-eqb n m q)
among_from (Some c ∷ cs) m (suc j) n e = ap (λ b. b || is_among (accepted_from (suc m) cs) n) (apart n m (λ q. omega (arith, e, q))) ∙ among_from cs (suc m) j n (omega (arith, e))

pub among : (chosen : List (Option Callee)) (n : ℕ) → is_among (accepted_by chosen) n ≡ is_some (chosen_at chosen n)
among chosen n = let e : n ≡ 0 + n = omega arith in among_from chosen 0 n n e

-- ---- what is found

-- nothing is found and nothing is chosen, or what is found by name is what is chosen by number
pub data Matches (p : Program) (b : Body) (n : ℕ) : Option by_name.Callee → Option Callee → Type 0 where
  Neither : Matches p b n None None
  Both : (c : Callee) (x : IsCopied p b n c) → Matches p b n (Some x.callee) (Some c)

module _ (p : Program) (b : Body) where
  pub form_there : (n : ℕ) → form_at (body_of p b) n ≡ option_map (form_of p) (slice_get b.insns n)
  form_there n = get_map (form_of p) b.insns n

  pub found_there : (n : ℕ) (c : Callee) (x : IsCopied p b n c) → callee_of (named p) (form_at (body_of p b) n) ≡ Some x.callee
  found_there n c x = ap (callee_of (named p)) (form_there n ∙ ap (option_map (form_of p)) x.here) ∙ x.finds

  module _ (chosen : List (Option Callee)) (copied : AreCopied p b chosen) where
    pub matches : (n : ℕ) → Matches p b n (callee_at (named p) (body_of p b) (accepted_by chosen) n) (chosen_at chosen n)
    matches n = by (chosen_at chosen n) refl
      where
        by : (o : Option Callee) → chosen_at chosen n ≡ o → Matches p b n (callee_at (named p) (body_of p b) (accepted_by chosen) n) o
        by None e = subst (λ (y : Option by_name.Callee). Matches p b n y None) (sym (ap (λ t. if t then callee_of (named p) (form_at (body_of p b) n) else None) (among chosen n ∙ ap is_some e))) Neither
        by (Some c) e = let x = copied n c e in
            subst (λ (y : Option by_name.Callee). Matches p b n y (Some c))
            (sym (ap (λ t. if t then callee_of (named p) (form_at (body_of p b) n) else None) (among chosen n ∙ ap is_some e) ∙ found_there n c x)) (Both c x)

  -- ---- registers

  greatest_from : (cs : List (Option Callee)) (m : ℕ) → ((j : ℕ) (c : Callee) → chosen_at cs j ≡ Some c → callee_registers (callee_of (named p) (form_at (body_of p b) (m + j))) ≡ c.body.now.registers)
      → by_name.greatest (named p) (body_of p b) (accepted_from m cs) ≡ greatest cs
  greatest_from [] m h = refl
  greatest_from (None ∷ cs) m h = greatest_from cs (suc m) (λ j c e. ap (λ k. callee_registers (callee_of (named p) (form_at (body_of p b) k))) (moved j) ∙ h (suc j) c e) ∙ least (greatest cs)
    where
      moved : (j : ℕ) → suc m + j ≡ m + suc j
      moved j = omega arith

      least : (n : ℕ) → n ≡ max 0 n
      least n = omega arith
  greatest_from (Some c ∷ cs) m h = ap₂ max (ap (λ k. callee_registers (callee_of (named p) (form_at (body_of p b) k))) here ∙ h 0 c refl)
      (greatest_from cs (suc m) (λ j c e. ap (λ k. callee_registers (callee_of (named p) (form_at (body_of p b) k))) (moved j) ∙ h (suc j) c e))
    where
      moved : (j : ℕ) → suc m + j ≡ m + suc j
      moved j = omega arith

      here : m ≡ m + 0
      here = omega arith

  pub same_greatest : (chosen : List (Option Callee)) → AreCopied p b chosen → by_name.greatest (named p) (body_of p b) (accepted_by chosen) ≡ greatest chosen
  same_greatest chosen copied = greatest_from chosen 0 (λ j c e. let x = copied j c e in
      ap (λ k. callee_registers (callee_of (named p) (form_at (body_of p b) k))) (from_0 j) ∙ ap callee_registers (found_there j c x) ∙ ap (λ (d : NamedBody). d.registers) x.is.body)
    where
      from_0 : (j : ℕ) → 0 + j ≡ j
      from_0 j = omega arith

  at_most : (x y : ℕ) → b.registers + x ≤ 65535 → b.registers + y ≤ 65535 → b.registers + max x y ≤ 65535
  at_most x y l m = omega (arith, l, m)

  greatest_room : (cs : List (Option Callee)) → ((j : ℕ) (c : Callee) → chosen_at cs j ≡ Some c → b.registers + c.body.now.registers ≤ 65535) → b.registers ≤ 65535 → b.registers + greatest cs ≤ 65535
  greatest_room [] h l = omega (arith, l)
  greatest_room (None ∷ cs) h l = at_most 0 (greatest cs) (omega (arith, l)) (greatest_room cs (λ j. h (suc j)) l)
  greatest_room (Some c ∷ cs) h l = at_most c.body.now.registers (greatest cs) (h 0 c refl) (greatest_room cs (λ j. h (suc j)) l)

  pub has_room : (chosen : List (Option Callee)) → AreCopied p b chosen → b.registers ≤ 65535 → b.registers + greatest chosen ≤ 65535
  has_room chosen copied l = greatest_room chosen (λ j c e. (copied j c e).registers) l

  -- ---- results that are taken

  pub same_taken : (n : ℕ) → by_name.taken_by (form_at (body_of p b) n) ≡ taken_by (slice_get b.insns n)
  same_taken n = ap by_name.taken_by (form_there n) ∙ by (slice_get b.insns n)
    where
      by : (o : Option Insn) → by_name.taken_by (option_map (form_of p) o) ≡ taken_by o
      by None = refl
      by (Some (insn.MoveResult slot to)) = refl
      by (Some i) = refl

  is_taken_by : (t : Taken) → by_name.is_taken t ≡ is_some t
  is_taken_by None = refl
  is_taken_by (Some t) = refl

  pub same_dropped : (chosen : List (Option Callee)) (n : ℕ) → by_name.is_dropped (body_of p b) (accepted_by chosen) n ≡ is_dropped chosen b.insns n
  same_dropped chosen zero = refl
  same_dropped chosen (suc n) = ap₂ (λ x y. x && y) (among chosen n) (ap by_name.is_taken (same_taken (suc n)) ∙ is_taken_by (taken_by (slice_get b.insns (suc n))))
