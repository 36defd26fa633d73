-- What is found for the instructions of a body.
use Rattle.std.proofs.Common.{◌≡◌, ℕ, zero, suc, ◌+◌, ◌<◌, ◌≤◌, min, Bool, true, false, List, [], ◌∷◌, ◌++◌, length, take, get_or, Option, Some, None, refl, sym, ap, ◌∙◌, subst, arith}
use Rattle.std.specs.Prelude.{All, IfSome, slice_get, if◌then◌else◌}
use Rattle.std.specs.Option.{option_map}
use Rattle.std.proofs.lemmas.Option.{slice_get-get_or}
use Rattle.std.proofs.lemmas.List.Elements.{All-push, All-nil, All-cons, All-head, All-tail}
use Rattle.insn_set.specs.declared.form.Insn.{Insn}
use Rattle.program_model.specs.declared.body.Body.{Body}
use Rattle.program_model.specs.declared.program.Program.{Program}
use Rattle.facts.specs.Lent.{frame_at}
use Rattle.facts.specs.declared.facts.Facts.{Facts}
use Rattle.rewrite_pass.specs.declared.edit.Edit.{Edit}
use Rattle.verify.specs.Typings.{Table}
use Rattle.const_prop.specs.declared.folding.Fold.{Fold}
use Rattle.const_prop.specs.declared.numbers.Number.{Number}
use Rattle.const_prop.specs.declared.choices.Way.{Way}
use Rattle.const_prop.specs.Allowed.{IsAllowed, Constant, Branch, IsFoldOf, insn_before}
use Rattle.const_prop.specs.Constants.{number_written, constant_for}
use Rattle.const_prop.specs.Choices.{chosen}
use Rattle.const_prop.specs.Folded as folded
use Rattle.const_prop.specs.Folded.{IsFound, IsFoundAt, MayBecome}
use Rattle.const_prop.specs.Folds.{constant_at, branch_or, fold_at, one_or_none, folds_from, folds_of, is_numbered, is_typed, is_typed_at, edit_of, edits_of}
use Rattle.const_prop.specs.Given.{given, number_at}
use Rattle.const_prop.specs.Kinds.{fits, is_typed_so}
use Rattle.const_prop.specs.Known.{way_by}
use Rattle.const_prop.proofs.Constants.{constant_is, constant_becomes, choice_becomes, choice_writes}

-- ---- as the pass finds it

pub constant_found : (n : ℕ) (f : Insn) (x : Fold) (k : Number) → x.position ≡ n → Some x.insn ≡ constant_for f k → number_written x.insn ≡ Some k → x.number ≡ Some k → IsFoundAt n f x
constant_found n f x k e h w i = record { position = e; becomes = constant_becomes f x.insn k (sym h); written = w ∙ sym i }

pub choice_found : (n next : ℕ) (f : Insn) (x : Fold) (way : Way) → x.position ≡ n → Some x.insn ≡ chosen f next way → x.number ≡ None → IsFoundAt n f x
choice_found n next f x way e h i = record { position = e; becomes = choice_becomes f x.insn next way (sym h); written = choice_writes f x.insn next way (sym h) ∙ sym i }

-- ---- as the facts say it

module _ (p : Program) (facts : Facts) (class method : ℕ) (is : List Insn) (n next : ℕ) (f : Insn) (way : Way) (along : way ≡ way_by (frame_at facts.frames.items method n) f) (behind : next ≡ n + 1) where
  abbrev at_next : Option Insn
  at_next = chosen f (n + 1) (way_by (frame_at facts.frames.items method n) f)

  same_choice : chosen f next way ≡ at_next
  same_choice = ap (λ m. chosen f m way) behind ∙ ap (chosen f (n + 1)) along

  abbrev else_at : Option Fold
  else_at = constant_at p (insn_before is n) n f (number_at p facts class method (insn_before is n) n f)

  -- any other instruction
  pub fold_number : (before : Option Insn) (number : Option Number) (x : Option Fold) → None ≡ chosen f next way → before ≡ insn_before is n → number ≡ number_at p facts class method before n f → x ≡ constant_at p before n f number
      → x ≡ fold_at p facts class method is n f
  fold_number before number x e b k h = h ∙ (ap (constant_at p before n f) k ∙ (ap (λ (b : Option Insn). constant_at p b n f (number_at p facts class method b n f)) b ∙ ap (λ (o : Option Insn). branch_or n o else_at) (e ∙ same_choice)))

-- what is found for the instruction at a position
pub found_in : (b : Body) (is : List Insn) (n position : ℕ) (f : Insn) (x : Fold) → is ≡ b.insns → n < length is → length b.insns ≤ 4294967295 → position ≡ min n 4294967295 → f ≡ get_or is n f → IsFoundAt position f x → IsFound b x
found_in b is n position f x s lt few e i h =
    let lt' : n < length b.insns = omega (arith, lt, ap length s) in
    let p : position ≡ n = omega (arith, e, few, lt') in
    record {
      fold = record {
        form = f;
        there = ap (slice_get b.insns) (h.position ∙ p) ∙ slice_get-get_or b.insns n f lt' ∙ ap Some (sym (i ∙ ap (λ l. get_or l n f) s));
        becomes = h.becomes;
      };
      written = h.written;
    }

pub found_more : (b : Body) (xs ys : List Fold) (x : Fold) → All (IsFound b) xs → IsFound b x → ys ≡ xs ++ x ∷ [] → All (IsFound b) ys
found_more b xs ys x h i e = subst (All (IsFound b)) (sym e) (All-push (IsFound b) xs x h i)

pub found_at : (o : Option Fold) (x : Fold) (n : ℕ) (f : Insn) → IfSome o (IsFoundAt n f) → o ≡ Some x → IsFoundAt n f x
found_at o x n f h e = let P : Option Fold → Type 0 = λ v. IfSome v (IsFoundAt n f) in subst P e h

-- ---- one more position

append_same : (xs ys zs : List Fold) → (xs ++ ys) ++ zs ≡ xs ++ (ys ++ zs)
append_same [] ys zs = refl
append_same (x ∷ xs) ys zs = ap (λ l. x ∷ l) (append_same xs ys zs)

pub append_none : (xs : List Fold) → xs ++ [] ≡ xs
append_none [] = refl
append_none (x ∷ xs) = ap (λ l. x ∷ l) (append_none xs)

one_further : (at : ℕ → Insn → Option Fold) (n i : ℕ) (fs : List Insn) (f : Insn) → slice_get fs i ≡ Some f → folds_from at n (take (suc i) fs) ≡ folds_from at n (take i fs) ++ one_or_none (at (n + i) f)
one_further at n i [] f e = absurd (cc)
one_further at n zero (g ∷ fs) f e =
    let same : g ≡ f = cc in
    let z : n ≡ n + 0 = omega arith in
    append_none (one_or_none (at n g)) ∙ (ap (λ f. one_or_none (at n f)) same ∙ ap (λ m. one_or_none (at m f)) z)
one_further at n (suc i) (g ∷ fs) f e =
    let z : (n + 1) + i ≡ n + suc i = omega arith in
    ap (λ l. one_or_none (at n g) ++ l) (one_further at (n + 1) i fs f e ∙ ap (λ m. folds_from at (n + 1) (take i fs) ++ one_or_none (at m f)) z)
    ∙ sym (append_same (one_or_none (at n g)) (folds_from at (n + 1) (take i fs)) (one_or_none (at (n + suc i) f)))

pub one_more : (at : ℕ → Insn → Option Fold) (n i : ℕ) (fs : List Insn) (f : Insn) → slice_get fs i ≡ Some f → folds_from at n (take (i + 1) fs) ≡ folds_from at n (take i fs) ++ one_or_none (at (n + i) f)
one_more at n i fs f e = let z : i + 1 ≡ suc i = omega arith in ap (λ m. folds_from at n (take m fs)) z ∙ one_further at n i fs f e

-- what the kinds allow of one more fold
typed_further : (t : Option Table) (b : Body) (xs : List Fold) (i : ℕ) (x : Fold) → slice_get xs i ≡ Some x → edits_of t b (take (suc i) xs) ≡ edits_of t b (take i xs) ++ edits_of t b (x ∷ [])
typed_further t b [] i x e = absurd (cc)
typed_further t b (y ∷ ys) zero x e = let same : y ≡ x = cc in ap (λ y. edits_of t b (y ∷ [])) same
typed_further t b (y ∷ ys) (suc i) x e = by (is_typed t b y) (typed_further t b ys i x e)
  where
    by : (v : Bool) → edits_of t b (take (suc i) ys) ≡ edits_of t b (take i ys) ++ edits_of t b (x ∷ [])
        → (if v then edit_of y ∷ edits_of t b (take (suc i) ys) else edits_of t b (take (suc i) ys)) ≡ (if v then edit_of y ∷ edits_of t b (take i ys) else edits_of t b (take i ys)) ++ edits_of t b (x ∷ [])
    by true h = ap (λ l. edit_of y ∷ l) h
    by false h = h

pub typed_more : (t : Option Table) (b : Body) (xs : List Fold) (i : ℕ) (x : Fold) → slice_get xs i ≡ Some x → edits_of t b (take (i + 1) xs) ≡ edits_of t b (take i xs) ++ edits_of t b (x ∷ [])
typed_more t b xs i x e = let z : i + 1 ≡ suc i = omega arith in ap (λ m. edits_of t b (take m xs)) z ∙ typed_further t b xs i x e

-- ---- what is written is allowed

-- a fold at a position, with what allows it
record FoldsThere (p : Program) (facts : Facts) (class method : ℕ) (is : List Insn) (n : ℕ) (f : Insn) (x : Fold) : Type 0 where
  at : x.position ≡ n
  allowed : number_written x.insn ≡ x.number → IsAllowed p (given p facts class (insn_before is n) f) (frame_at facts.frames.items method n) n f x.insn
  fits : (k : Number) → x.number ≡ Some k → fits p (insn_before is n) f k ≡ true

some_is : {A : Type 0} (x y : A) → Some x ≡ Some y → x ≡ y
some_is x y e = cc

module _ (p : Program) (facts : Facts) (class method : ℕ) (is : List Insn) (n : ℕ) (f : Insn) where
  abbrev There : Fold → Type 0
  There x = FoldsThere p facts class method is n f x

  constant_there : (x : Fold) (k : Number) → number_at p facts class method (insn_before is n) n f ≡ Some k → (v : Bool) → fits p (insn_before is n) f k ≡ v → (o : Option Insn) → constant_for f k ≡ o
      → (if v then option_map (λ g. record { position = n; insn = g; number = Some k }) o else None) ≡ Some x → There x
  constant_there x k e false i o w h = absurd (cc)
  constant_there x k e true i None w h = absurd (cc)
  constant_there x k e true i (Some g) w h =
      let y : Fold = record { position = n; insn = g; number = Some k } in
      let same : y ≡ x = some_is y x h in
      subst There same (record { at = refl; allowed = λ z. Constant k g e z (constant_is f g k w); fits = λ q z. subst (λ q. fits p (insn_before is n) f q ≡ true) (some_is k q z) i })

  number_there : (x : Fold) (o : Option Number) → number_at p facts class method (insn_before is n) n f ≡ o → constant_at p (insn_before is n) n f o ≡ Some x → There x
  number_there x None e h = absurd (cc)
  number_there x (Some k) e h = constant_there x k e (fits p (insn_before is n) f k) refl (constant_for f k) refl h

  there_by : (x : Fold) (o : Option Insn) → chosen f (n + 1) (way_by (frame_at facts.frames.items method n) f) ≡ o → branch_or n o (constant_at p (insn_before is n) n f (number_at p facts class method (insn_before is n) n f)) ≡ Some x → There x
  there_by x (Some g) e h =
      let y : Fold = record { position = n; insn = g; number = None } in
      let same : y ≡ x = some_is y x h in
      subst There same (record { at = refl; allowed = λ z. Branch g e; fits = λ q z. absurd (cc) })
  there_by x None e h = number_there x (number_at p facts class method (insn_before is n) n f) refl h

  there : (x : Fold) → fold_at p facts class method is n f ≡ Some x → There x
  there x h = there_by x (chosen f (n + 1) (way_by (frame_at facts.frames.items method n) f)) refl h

-- a fold of a body
record FoldsIn (p : Program) (facts : Facts) (class method : ℕ) (b : Body) (x : Fold) : Type 0 where
  form : Insn
  has : slice_get b.insns x.position ≡ Some form
  there : FoldsThere p facts class method b.insns x.position form x

module _ (p : Program) (facts : Facts) (class method : ℕ) (b : Body) where
  abbrev In : Fold → Type 0
  In x = FoldsIn p facts class method b x

  one_in : (n : ℕ) (f : Insn) → slice_get b.insns n ≡ Some f → (o : Option Fold) → fold_at p facts class method b.insns n f ≡ o → (xs : List Fold) → All In xs → All In (one_or_none o ++ xs)
  one_in n f e None i xs h = h
  one_in n f e (Some x) i xs h =
      let y : FoldsThere p facts class method b.insns n f x = there p facts class method b.insns n f x i in
      All-cons In x xs (record { form = f; has = ap (slice_get b.insns) y.at ∙ e; there = subst (λ m. FoldsThere p facts class method b.insns m f x) (sym y.at) y }) h

  all_in : (n : ℕ) (fs : List Insn) → ((k : ℕ) (f : Insn) → slice_get fs k ≡ Some f → slice_get b.insns (n + k) ≡ Some f) → All In (folds_from (fold_at p facts class method b.insns) n fs)
  all_in n [] h = All-nil In
  all_in n (f ∷ fs) h = one_in n f (ap (slice_get b.insns) (let z : n ≡ n + 0 = omega arith in z) ∙ h 0 f refl) (fold_at p facts class method b.insns n f) refl (folds_from (fold_at p facts class method b.insns) (n + 1) fs)
      (all_in (n + 1) fs (λ k g e. ap (slice_get b.insns) (let z : (n + 1) + k ≡ n + suc k = omega arith in z) ∙ h (suc k) g e))

  folds_in : All In (folds_of p facts class method b)
  folds_in = by (is_numbered b)
    where
      by : (v : Bool) → All In (if v then folds_from (fold_at p facts class method b.insns) 0 b.insns else [])
      by true = all_in 0 b.insns (λ k f e. ap (slice_get b.insns) (let z : 0 + k ≡ k = omega arith in z) ∙ e)
      by false = All-nil In

  module _ (t : Option Table) where
    abbrev Right : Edit → Type 0
    Right e = IsFoldOf p facts t class method b e.position e.insn

    typed_form : (x : Fold) (f : Insn) → slice_get b.insns x.position ≡ Some f → is_typed t b x ≡ true → is_typed_so t x.position f x.number ≡ true
    typed_form x f e h = subst (λ o. is_typed_at t o x ≡ true) e h

    right : (x : Fold) → In x → number_written x.insn ≡ x.number → is_typed t b x ≡ true → Right (edit_of x)
    right x i w h = record {
      form = i.form;
      there = i.has;
      allowed = i.there.allowed w;
      kinds = λ k e. record {
        fits = i.there.fits k (sym w ∙ e);
        typed = subst (λ o. is_typed_so t x.position i.form o ≡ true) (sym w ∙ e) (typed_form x i.form i.has h);
      };
    }

    all_right : (xs : List Fold) → All In xs → All (IsFound b) xs → All Right (edits_of t b xs)
    all_right [] h i = All-nil Right
    all_right (x ∷ xs) h i = by (is_typed t b x) refl (all_right xs (tail In x xs h) (tail (IsFound b) x xs i))
      where
        tail : (P : Fold → Type 0) (x : Fold) (xs : List Fold) → All P (x ∷ xs) → All P xs
        tail P x xs a = All-tail P x xs a

        by : (v : Bool) → is_typed t b x ≡ v → All Right (edits_of t b xs) → All Right (if v then edit_of x ∷ edits_of t b xs else edits_of t b xs)
        by true e r = All-cons Right (edit_of x) (edits_of t b xs) (right x (All-head In x xs h) (All-head (IsFound b) x xs i).written e) r
        by false e r = r

-- what is written over a body is what the facts and the kinds allow
pub edits_right : (p : Program) (facts : Facts) (class method : ℕ) (b : Body) (t : Option Table) (xs : List Fold) → All (IsFound b) xs → xs ≡ folds_of p facts class method b → All (λ e. IsFoldOf p facts t class method b e.position e.insn) (edits_of t b xs)
edits_right p facts class method b t xs i e = all_right p facts class method b t xs (subst (All (In p facts class method b)) (sym e) (folds_in p facts class method b)) i

-- whatever it is, each edit is of a fold that was found
pub edits_become : (b : Body) (t : Option Table) (xs : List Fold) → All (IsFound b) xs → All (folded.IsFold b) (edits_of t b xs)
edits_become b t [] i = All-nil (folded.IsFold b)
edits_become b t (x ∷ xs) i = by (is_typed t b x) (edits_become b t xs (All-tail (IsFound b) x xs i))
  where
    by : (v : Bool) → All (folded.IsFold b) (edits_of t b xs) → All (folded.IsFold b) (if v then edit_of x ∷ edits_of t b xs else edits_of t b xs)
    by true r = All-cons (folded.IsFold b) (edit_of x) (edits_of t b xs) (All-head (IsFound b) x xs i).fold r
    by false r = r
