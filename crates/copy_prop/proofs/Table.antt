-- The table of the Moves by which reads are stale.
use Rattle.std.proofs.Common.{◌≡◌, ℕ, ◌+◌, ◌<◌, Bool, true, false, List, [], ◌∷◌, ◌++◌, length, Some, None, refl, sym, ap, ◌∙◌, subst, arith, ◌⊎◌, inl, inr}
use Rattle.std.specs.Prelude.{if◌then◌else◌, slice_index_or, All}
use Rattle.std.proofs.lemmas.Bool.{cases_eq}
use Rattle.std.proofs.lemmas.List.Elements.{All-same, All-nil, All-push}
use Rattle.std.proofs.lemmas.Option.{slice_get_within}
use Rattle.insn_set.specs.declared.ops.Slot.{Slot}
use Rattle.insn_set.specs.declared.form.Insn.{Insn}
use Rattle.insn_set.specs.declared.form.Insn.TheVariants.{Move}
use Rattle.program_model.specs.declared.body.Body.{Body}
use Rattle.walk_marks.specs.Walks.{is_on}
use Rattle.body_graph.specs.Walks.{insn_at}
use Rattle.copy_prop.specs.Stale.{IsStaleBy}
use Rattle.copy_prop.specs.Searches.{AreStaleBy, AreCopies, Adds, IsAmong, IsCopied, HasNoCopy, IsPlain}
use Rattle.copy_prop.specs.declared.copied.Copied.{Copied}

not_nil : {A : Type 0} (xs : List A) (x : A) → xs ++ x ∷ [] ≡ [] → ⊥
not_nil [] x e = absurd (cc)
not_nil (y ∷ xs) x e = absurd (cc)

module _ (w : List (List Bool)) (b : Body) where
  pub no_copies_yet : (table : List (List Copied)) → length table ≡ length b.insns → ((n : ℕ) → slice_index_or table n [] ≡ []) → AreCopies w b 0 table
  no_copies_yet table long empty = record {
    long = long;
    sound = λ n f h. All-same (IsAmong w b n f) (slice_index_or table n []) [] (empty n) (All-nil (IsAmong w b n f));
    all = λ at slot to from n f lt plain h by e. omega arith;
  }

  -- a Move more
  module _ (at : ℕ) (c : Copied) (insn : Insn) (there : insn_at b at ≡ Some insn) (found : IsCopied insn at (Some c)) (marks : List Bool) (are : AreStaleBy w b c marks) (old new : List (List Copied)) (added : Adds c marks old new) (was : AreCopies w b at old) where
    row_is : (n : ℕ) (f : Insn) → insn_at b n ≡ Some f → slice_index_or new n [] ≡ (if is_on marks n then slice_index_or old n [] ++ c ∷ [] else slice_index_or old n [])
    row_is n f h = added.rows n (subst (λ k. n < k) (sym was.long) (slice_get_within b.insns n f h))

    sound_at : (n : ℕ) (f : Insn) → insn_at b n ≡ Some f → All (IsAmong w b n f) (slice_index_or new n [])
    sound_at n f h = by (is_on marks n) refl
      where
        by : (v : Bool) → is_on marks n ≡ v → All (IsAmong w b n f) (slice_index_or new n [])
        by true e = All-same (IsAmong w b n f) (slice_index_or new n []) (slice_index_or old n [] ++ c ∷ []) (row_is n f h ∙ ap (λ v. if v then slice_index_or old n [] ++ c ∷ [] else slice_index_or old n []) e)
            (All-push (IsAmong w b n f) (slice_index_or old n []) c (was.sound n f h) ((are.are n f (slice_get_within b.insns n f h) h).0 e))
        by false e = All-same (IsAmong w b n f) (slice_index_or new n []) (slice_index_or old n []) (row_is n f h ∙ ap (λ v. if v then slice_index_or old n [] ++ c ∷ [] else slice_index_or old n []) e) (was.sound n f h)

    all_at : (k : ℕ) (slot : Slot) (to from n : ℕ) (f : Insn) → k < at + 1 → IsPlain b k slot to from → insn_at b n ≡ Some f → IsStaleBy w b n f k slot to from → slice_index_or new n [] ≡ [] → ⊥
    all_at k slot to from n f lt plain h by e = cases (cases_eq k at)
      where
        still : slice_index_or old n [] ≡ []
        still = of (is_on marks n) refl
          where
            of : (v : Bool) → is_on marks n ≡ v → slice_index_or old n [] ≡ []
            of true i = absurd (not_nil (slice_index_or old n []) c (sym (row_is n f h ∙ ap (λ v. if v then slice_index_or old n [] ++ c ∷ [] else slice_index_or old n []) i) ∙ e))
            of false i = sym (row_is n f h ∙ ap (λ v. if v then slice_index_or old n [] ++ c ∷ [] else slice_index_or old n []) i) ∙ e

        here : k ≡ at → ⊥
        here same =
            let o : Some (Move slot to from) ≡ Some (Move c.slot c.to c.from) = sym plain.copy ∙ ap (λ j. insn_at b j) same ∙ there ∙ ap Some found.1 in
            let e1 : slot ≡ c.slot = cc in
            let e2 : to ≡ c.to = cc in
            let e3 : from ≡ c.from = cc in
            let by' : IsStaleBy w b n f c.at c.slot c.to c.from = subst (λ j. IsStaleBy w b n f j c.slot c.to c.from) (same ∙ sym found.0) (subst (λ x. IsStaleBy w b n f k x c.to c.from) e1 (subst (λ x. IsStaleBy w b n f k slot x c.from) e2 (subst (λ x. IsStaleBy w b n f k slot to x) e3 by))) in
            let on : is_on marks n ≡ true = (are.are n f (slice_get_within b.insns n f h) h).1 by' in
            not_nil (slice_index_or old n []) c (sym (row_is n f h ∙ ap (λ v. if v then slice_index_or old n [] ++ c ∷ [] else slice_index_or old n []) on) ∙ e)

        cases : (k ≡ at) ⊎ (k ≡ at → ⊥) → ⊥
        cases (inl same) = here same
        cases (inr ne) = was.all k slot to from n f (omega arith) plain h by still

    pub copies_more : AreCopies w b (at + 1) new
    copies_more = record { long = added.long ∙ was.long; sound = sound_at; all = all_at }

  -- no such Move there
  pub copies_skip : (at : ℕ) (insn : Insn) (table : List (List Copied)) → insn_at b at ≡ Some insn → IsCopied insn at None → AreCopies w b at table → AreCopies w b (at + 1) table
  copies_skip at insn table there found was = record { long = was.long; sound = was.sound; all = all }
    where
      all : (k : ℕ) (slot : Slot) (to from n : ℕ) (f : Insn) → k < at + 1 → IsPlain b k slot to from → insn_at b n ≡ Some f → IsStaleBy w b n f k slot to from → slice_index_or table n [] ≡ [] → ⊥
      all k slot to from n f lt plain h by e = cases (cases_eq k at)
        where
          cases : (k ≡ at) ⊎ (k ≡ at → ⊥) → ⊥
          cases (inl same) =
              let o : Some insn ≡ Some (Move slot to from) = sym there ∙ ap (λ j. insn_at b j) (sym same) ∙ plain.copy in
              let i : insn ≡ Move slot to from = cc in
              found slot to from i plain.apart plain.room
          cases (inr ne) = was.all k slot to from n f (omega arith) plain h by e

  -- where no Move can make a read stale, none is
  pub copies_none : (table : List (List Copied)) → length table ≡ length b.insns → ((n : ℕ) → slice_index_or table n [] ≡ []) → HasNoCopy b (length b.insns) → AreCopies w b (length b.insns) table
  copies_none table long empty none = record {
    long = long;
    sound = λ n f h. All-same (IsAmong w b n f) (slice_index_or table n []) [] (empty n) (All-nil (IsAmong w b n f));
    all = λ at slot to from n f lt plain h by e. none at (Move slot to from) lt plain.copy slot to from refl plain.apart plain.room;
  }

pub no_copy_more : (b : Body) (k : ℕ) (f : Insn) → insn_at b k ≡ Some f → IsCopied f k None → HasNoCopy b k → HasNoCopy b (k + 1)
no_copy_more b k f there found was n g lt h = by (cases_eq n k)
  where
    by : (n ≡ k) ⊎ (n ≡ k → ⊥) → IsCopied g n None
    by (inl e) =
        let o : Some f ≡ Some g = sym there ∙ ap (λ j. insn_at b j) (sym e) ∙ h in
        let i : f ≡ g = cc in
        λ slot to from is. found slot to from (i ∙ is)
    by (inr ne) = was n g (omega arith) h
