-- What loops over the declarations of a library come to.
use Rattle.std.proofs.Common.{◌≡◌, ℕ, zero, suc, ◌+◌, ◌<◌, ◌≤◌, inl, inr, Bool, true, false, true≢false, List, [], ◌∷◌, ◌++◌, length, take, get_or, Option, Some, None, refl, sym, ap, subst, ◌∙◌, arith}
use Rattle.std.specs.Prelude.{◌⊎◌, ◌&&◌, ◌||◌, not, cond, slice_get}
use Rattle.std.specs.List.{flat_map, list_any, list_all}
use Rattle.std.proofs.lemmas.List.{take_more, append-nil}
use Rattle.std.proofs.lemmas.List.Folds.{list_any-append, list_all-append}
use Rattle.std.proofs.lemmas.Grind.{flat_map-append}
use Rattle.std.proofs.lemmas.Option.{slice_get_within}
use Rattle.program_model.specs.MemberRules.{is_object}
use Rattle.program_model.specs.Texts.{string_text}
use Rattle.program_model.specs.declared.pools.MethodName.{MethodName}
use Rattle.program_model.specs.declared.program.Program.{Program}
use Rattle.class_defs.specs.Members.{names_method}
use Rattle.stub_library.specs.Stubs.{proto_text}
use Rattle.stub_library.specs.Shut.{declares, above_of, declares_method}
use Rattle.stub_library.specs.Listing.{same_text, all_below, AreListed}
use Rattle.stub_library.specs.Spelling.{IsSpelled}
use Rattle.stub_library.specs.Lists.{In}
use Rattle.stub_library.specs.Meeting.{Adds, Meets, MeetsEntry, is_clear, clear_by, names_any, text_at, class_text, declared_by, HasRow, AreRows, IsDeclared, DeclaredTo, local_clear, rows_at, above_by}
use Rattle.stub_library.specs.declared.library.LibraryClass.{LibraryClass}
use Rattle.stub_library.specs.declared.library.Library.{Library}
use Rattle.stub_library.specs.declared.spelled.Spelled.{Spelled}
use Rattle.stub_library.specs.declared.declared.Declared.{Declared}
use Rattle.stub_library.specs.declared.declared.Met.{Met}
use Rattle.stub_library.proofs.Lists.{in_left, in_right, in_either}
use Rattle.stub_library.proofs.ByText.{text_is, text_same, got_front, got_last, one_longer, before_or_at}
use Rattle.stub_library.proofs.Declares.{row_is, above_from, above_to, declared_none, declared_some, rows_are}

-- ---- texts that are added

pub adds_none : (seen : List ℕ → Bool) (xs : List (List ℕ)) → Adds [] seen seen xs xs
adds_none seen xs = record { stays = λ t i. i; from = λ t i. inl i; got = λ t i. absurd i; seen = λ t e. inl e; more = λ t e. e }

pub adds_more : (S T : List (List ℕ)) (old mid new : List ℕ → Bool) (a b c : List (List ℕ)) → Adds S old mid a b → Adds T mid new b c → Adds (S ++ T) old new a c
adds_more S T old mid new a b c x y = record {
  stays = λ t i. y.stays t (x.stays t i);
  from = λ t i. elim (y.from t i) [
    | inl j ↦ elim (x.from t j) [ inl k ↦ inl k | inr k ↦ inr (in_left S T t k) ]
    | inr k ↦ inr (in_right S T t k)
  ];
  got = λ t i. elim (in_either S T t i) [
    | inl j ↦ elim (x.got t j) [ inl e ↦ inl e | inr k ↦ inr (y.stays t k) ]
    | inr j ↦ elim (y.got t j) [ inl e ↦ elim (x.seen t e) [ inl f ↦ inl f | inr k ↦ inr (y.stays t k) ] | inr k ↦ inr k ]
  ];
  seen = λ t e. elim (y.seen t e) [ inl f ↦ elim (x.seen t f) [ inl g ↦ inl g | inr k ↦ inr (y.stays t k) ] | inr k ↦ inr k ];
  more = λ t e. y.more t (x.more t e);
}

-- the same of texts that are the same but for their order
pub adds_same : (S T : List (List ℕ)) (old new : List ℕ → Bool) (a b : List (List ℕ)) → ((t : List ℕ) → In t S → In t T) → ((t : List ℕ) → In t T → In t S) → Adds S old new a b → Adds T old new a b
adds_same S T old new a b f g x = record {
  stays = x.stays;
  from = λ t i. elim (x.from t i) [ inl j ↦ inl j | inr j ↦ inr (f t j) ];
  got = λ t i. x.got t (g t i);
  seen = x.seen;
  more = x.more;
}

-- one text that wasn't seen, or was
pub adds_fresh : (t : List ℕ) (old new : List ℕ → Bool) (a b : List (List ℕ)) → ((u : List ℕ) → new u ≡ cond (same_text t u) true (old u)) → b ≡ a ++ t ∷ [] → Adds (t ∷ []) old new a b
adds_fresh t old new a b put pushed = record {
  stays = λ u i. subst (λ xs. In u xs) (sym pushed) (in_left a (t ∷ []) u i);
  from = λ u i. in_either a (t ∷ []) u (subst (λ xs. In u xs) pushed i);
  got = λ u i. inr (subst (λ xs. In u xs) (sym pushed) (in_right a (t ∷ []) u i));
  seen = λ u e. by u (same_text t u) refl (sym (put u) ∙ e);
  more = λ u e. put u ∙ more (same_text t u) (old u) e;
}
  where
    by : (u : List ℕ) (d : Bool) → same_text t u ≡ d → cond d true (old u) ≡ true → (old u ≡ true) ⊎ In u b
    by u true f e = inr (subst (λ xs. In u xs) (sym pushed) (in_right a (t ∷ []) u (inl (text_is t u f))))
    by u false f e = inl e

    more : (d e : Bool) → e ≡ true → cond d true e ≡ true
    more true e f = refl
    more false e f = f

pub adds_known : (t : List ℕ) (old new : List ℕ → Bool) (a b : List (List ℕ)) → ((u : List ℕ) → new u ≡ cond (same_text t u) true (old u)) → old t ≡ true → b ≡ a → Adds (t ∷ []) old new a b
adds_known t old new a b put known same = record {
  stays = λ u i. subst (λ xs. In u xs) (sym same) i;
  from = λ u i. inl (subst (λ xs. In u xs) same i);
  got = λ u i. inl (elim i [ inl e ↦ subst (λ v. old v ≡ true) e known | inr j ↦ absurd j ]);
  seen = λ u e. inl (by u (same_text t u) refl (sym (put u) ∙ e));
  more = λ u e. put u ∙ more (same_text t u) (old u) e;
}
  where
    by : (u : List ℕ) (d : Bool) → same_text t u ≡ d → cond d true (old u) ≡ true → old u ≡ true
    by u true f e = subst (λ v. old v ≡ true) (text_is t u f) known
    by u false f e = e

    more : (d e : Bool) → e ≡ true → cond d true e ≡ true
    more true e f = refl
    more false e f = f

-- one more of a list
pub adds_taken : {X : Type 0} (f : X → List (List ℕ)) (old mid new : List ℕ → Bool) (a b c : List (List ℕ)) (xs slice : List X) (i : ℕ) (x d : X) → slice ≡ xs → x ≡ get_or slice i d → i < length slice
    → Adds (flat_map f (take i xs)) old mid a b → Adds (f x) mid new b c → Adds (flat_map f (take (i + 1) xs)) old new a c
adds_taken f old mid new a b c xs slice i x d same is lt so_far step =
    let more : take (i + 1) slice ≡ take i slice ++ x ∷ [] = take_more slice i d lt ∙ ap (λ y. take i slice ++ y ∷ []) (sym is) in
    let here : flat_map f (take (i + 1) xs) ≡ flat_map f (take i xs) ++ f x =
    subst (λ l. flat_map f (take (i + 1) l) ≡ flat_map f (take i l) ++ f x) same (ap (flat_map f) more ∙ flat_map-append f (take i slice) (x ∷ []) ∙ ap (λ l. flat_map f (take i slice) ++ l) (append-nil (f x))) in
    subst (λ s. Adds s old new a c) (sym here) (adds_more (flat_map f (take i xs)) (f x) old mid new a b c so_far step)

-- ---- what is met

and_true : (a : Bool) → a ≡ (a && true)
and_true true = refl
and_true false = refl

and_more : (a b c : Bool) → ((a && b) && c) ≡ (a && (b && c))
and_more true b c = refl
and_more false b c = refl

pub meets_none : (p : Program) (met : Met) → MeetsEntry p (λ q. true) met met
meets_none p met = record { is = λ i q e. and_true (is_clear p met q) }

pub meets_more : (p : Program) (f g : MethodName → Bool) (old mid new : Met) → MeetsEntry p f old mid → MeetsEntry p g mid new → MeetsEntry p (λ q. f q && g q) old new
meets_more p f g old mid new x y = record { is = λ i q e. y.is i q e ∙ ap (λ b. b && g q) (x.is i q e) ∙ and_more (is_clear p old q) (f q) (g q) }

-- one more of a list
pub meets_taken : {X : Type 0} (p : Program) (f : MethodName → X → Bool) (old mid new : Met) (xs slice : List X) (i : ℕ) (x d : X) → slice ≡ xs → x ≡ get_or slice i d → i < length slice
    → MeetsEntry p (λ q. list_all (f q) (take i xs)) old mid → MeetsEntry p (λ q. f q x) mid new → MeetsEntry p (λ q. list_all (f q) (take (i + 1) xs)) old new
meets_taken p f old mid new xs slice i x d same is lt so_far step =
    let more : take (i + 1) slice ≡ take i slice ++ x ∷ [] = take_more slice i d lt ∙ ap (λ y. take i slice ++ y ∷ []) (sym is) in
    let here : take (i + 1) xs ≡ take i xs ++ x ∷ [] = subst (λ l. take (i + 1) l ≡ take i l ++ x ∷ []) same more in
    record {
      is = λ j q e. step.is j q e ∙ ap (λ b. b && f q x) (so_far.is j q e) ∙ and_more (is_clear p old q) (list_all (f q) (take i xs)) (f q x)
          ∙ ap (λ b. is_clear p old q && b) (ap (λ b. list_all (f q) (take i xs) && b) (and_true (f q x)) ∙ sym (list_all-append (f q) (take i xs) (x ∷ [])) ∙ ap (list_all (f q)) (sym here));
    }

-- a type is met
split_not : (a b w v : Bool) → ((w && v) && not (a || b)) ≡ ((w && not a) && (v && not b))
split_not true b w v = left w v
  where
    left : (w v : Bool) → ((w && v) && false) ≡ ((w && false) && (v && not b))
    left true true = refl
    left true false = refl
    left false v = refl
split_not false b true v = refl
split_not false b false v = refl

pub met_one : (p : Program) (l : Library) (d : Declared) → IsDeclared p l d → (t : List ℕ) (places : List ℕ) → places ≡ all_below (text_at l) t (length l.classes) → (old new : Met) (some : Bool)
    → (places ≡ [] → some ≡ false) → ((j : ℕ) (js : List ℕ) → places ≡ j ∷ js → some ≡ true) → new.whole ≡ (old.whole && (is_object t || some)) → new.numbers.items ≡ old.numbers.items ++ rows_at d.numbers.items places
    → Meets p (λ n q. local_clear l n q t) old new
met_one p l d are t places at old new some none one whole numbers = record {
  is = λ i q e.
      let test = λ (n : ℕ). names_method q.name q.proto (slice_get p.methods n) in
      let known : some ≡ declares l t = by places refl in
      let n = string_text p q.name in
      let r = proto_text p q.proto in
      let rows : names_any p q (rows_at d.numbers.items places) ≡ declares_method l t n r = ap (λ x. names_any p q (rows_at d.numbers.items x)) at ∙ rows_are l t p d.numbers.items are.rows i q e in
      ap (λ w. clear_by p q w new.numbers.items) (whole ∙ ap (λ b. old.whole && (is_object t || b)) known)
      ∙ ap (clear_by p q (old.whole && (is_object t || declares l t))) numbers
      ∙ ap (λ b. (old.whole && (is_object t || declares l t)) && not b) (list_any-append test old.numbers.items (rows_at d.numbers.items places))
      ∙ ap (λ b. (old.whole && (is_object t || declares l t)) && not (names_any p q old.numbers.items || b)) rows
      ∙ split_not (names_any p q old.numbers.items) (declares_method l t n r) old.whole (is_object t || declares l t);
}
  where
    by : (xs : List ℕ) → places ≡ xs → some ≡ declares l t
    by [] e = none e ∙ sym (declared_none l t (sym at ∙ e))
    by (j ∷ js) e = one j js e ∙ sym (declared_some l t j js (sym at ∙ e))

-- and what stands above it is added
pub added_above : (p : Program) (l : Library) (d : Declared) → IsDeclared p l d → (t : List ℕ) (places : List ℕ) → places ≡ all_below (text_at l) t (length l.classes) → (old new : List ℕ → Bool) (a b : List (List ℕ))
    → Adds (above_by d.library.now places) old new a b → Adds (above_of l t) old new a b
added_above p l d are t places at old new a b adds =
    adds_same (above_by l (all_below (text_at l) t (length l.classes))) (above_of l t) old new a b (above_from l t) (above_to l t)
    (subst (λ x. Adds (above_by l x) old new a b) at (subst (λ x. Adds (above_by x places) old new a b) are.library adds))

-- ---- the tables of a library

pub declared_first : (p : Program) (l : Library) (d : Declared) → d.library.now ≡ l → d.numbers.items ≡ [] → ((texts : ℕ → List ℕ) → AreListed texts 0 d.classes) → DeclaredTo p l d 0
declared_first p l d is none names = record { library = is; listed = names (text_at l); size = ap length none; rows = λ j c lt. absurd (omega (arith, lt)) }

pub declared_more : (p : Program) (l : Library) (s : Spelled) (old new : Declared) (done : ℕ) (c : LibraryClass) (row : List ℕ) → IsSpelled p s → DeclaredTo p l old done → slice_get l.classes done ≡ Some c
    → new.library.now ≡ old.library.now → AreListed (text_at l) (done + 1) new.classes → new.numbers.items ≡ old.numbers.items ++ row ∷ [] → row ≡ declared_by p s.numbers.items c → DeclaredTo p l new (done + 1)
declared_more p l s old new done c row is to got same listed pushed row_made = record {
  library = same ∙ to.library;
  listed = listed;
  size = ap length pushed ∙ one_longer old.numbers.items row ∙ ap (λ m. m + 1) to.size;
  rows = λ j k lt e. elim (before_or_at j done lt) [
    | inl l' ↦ (
        let w = to.rows j k l' e in
        record { row = w.row; is = ap (λ xs. slice_get xs j) pushed ∙ got_front old.numbers.items (row ∷ []) j (let z = to.size in omega (arith, l', z)) ∙ w.is; are = w.are })
    | inr z ↦ (
        let y : Some k ≡ Some c = sym e ∙ ap (slice_get l.classes) z ∙ got in
        let classes : k ≡ c = cc in
        record {
          row = row;
          is = ap (λ xs. slice_get xs j) pushed ∙ ap (slice_get (old.numbers.items ++ row ∷ [])) (z ∙ sym to.size) ∙ got_last old.numbers.items row;
          are = row_is p s k row is (row_made ∙ ap (declared_by p s.numbers.items) (sym classes));
        })
  ];
}

pub declared_all : (p : Program) (l : Library) (d : Declared) (done : ℕ) → length l.classes ≤ done → done ≤ length l.classes → DeclaredTo p l d done → IsDeclared p l d
declared_all p l d done le ge to =
    let same : done ≡ length l.classes = omega (arith, le, ge) in
    record {
      library = to.library;
      listed = subst (λ n. AreListed (text_at l) n d.classes) same to.listed;
      rows = record { size = to.size ∙ same; at = λ j c e. to.rows j c (let z = slice_get_within l.classes j c e in omega (arith, z, same)) e };
    }
