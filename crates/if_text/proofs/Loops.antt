-- Loops over lists of which each is one of each, and slots of a line.
use Rattle.std.proofs.Common.{◌≡◌, ◌<◌, ◌≤◌, ◌+◌, ◌-◌, ℕ, zero, suc, List, [], ◌∷◌, ◌++◌, take, drop, get_or, length, Vec, Option, Some, None, refl, sym, ap, subst, ◌∙◌, arith, length-append}
use Rattle.std.specs.List.{flat_map}
use Rattle.std.specs.declared.alloc.Global.{Global}
use Rattle.std.proofs.lemmas.List.{append-nil, append_assoc, take_all}
use Rattle.rule_text.specs.Related.{AreEach, AreBoth, AreMembersOf, IsMemberOf, IsTypeOf, IsPatternOf, AreArgumentsOf, IsWhatOf, OfField, OfMethod}
use Rattle.rule_text.specs.Rules.{Arguments, What, MemberRule}
use Rattle.rule_text.specs.Tokens.{Word}
use Rattle.rule_text.specs.declared.pattern.NamePattern.{NamePattern}
use Rattle.rule_text.specs.declared.rules.Arguments.{Arguments as ReadArguments}
use Rattle.rule_text.specs.declared.rules.MemberRule.{MemberRule as ReadMember}
use Rattle.rule_text.specs.declared.rules.TypePattern.{TypePattern}
use Rattle.rule_text.specs.declared.rules.What.{What as ReadWhat}
use Rattle.rule_text.specs.declared.rules.What.TheVariants as what
use Rattle.if_text.specs.Slots.{Adds}
use Rattle.if_text.specs.Wildcards.{numbered, name_wilds, type_wilds, types_wilds, argument_wilds, what_wilds, blanks, name_slots, lines_slots, members_slots}
use Rattle.if_text.specs.declared.slots.Source.{Source}
use Rattle.if_text.specs.declared.slots.Source.TheVariants.{Name, Line}

-- the first of a list, and what is behind it
pub split_first : {X : Type 0} (xs : List X) (x : X) → 0 < length xs → x ≡ get_or xs 0 x → xs ≡ x ∷ take (length xs - 1) (drop 1 xs)
split_first [] x some is = absurd (omega (arith, some))
split_first (y ∷ ys) x some is =
    let e : length (y ∷ ys) - 1 ≡ length ys = omega arith in
    ap (λ z. z ∷ ys) (sym is) ∙ ap (λ zs. x ∷ zs) (sym (ap (λ k. take k ys) e ∙ take_all (length ys) ys (omega arith)))

-- what is left to add is what belongs to the rest
pub record Left {R S X : Type 0} (P : R → S → Type 0) (f : S → List X) (rest : List R) (out init : List X) (ss : List S) : Type 0 where
  pub left : List S
  pub are : AreEach P rest left
  pub is : out ++ flat_map f left ≡ init ++ flat_map f ss

pub left_begin : {R S X : Type 0} (P : R → S → Type 0) (f : S → List X) (rs : List R) (init : List X) (ss : List S) → AreEach P rs ss → Left P f rs init init ss
left_begin P f rs init ss are = record { left = ss; are = are; is = refl }

more_by : {R S X : Type 0} (P : R → S → Type 0) (f : S → List X) (r : R) (rest : List R) (out new init : List X) (ss left : List S) → ((s : S) → P r s → new ≡ out ++ f s)
    → AreEach P (r ∷ rest) left → out ++ flat_map f left ≡ init ++ flat_map f ss → Left P f rest new init ss
more_by P f r rest out new init ss [] more are is = absurd are
more_by P f r rest out new init ss (s ∷ left) more are is = record { left = left; are = are.1; is = ap (λ x. x ++ flat_map f left) (more s are.0) ∙ append_assoc out (f s) (flat_map f left) ∙ is }

pub left_more : {R S X : Type 0} (P : R → S → Type 0) (f : S → List X) (r : R) (all rest : List R) (out new init : List X) (ss : List S) → all ≡ r ∷ rest → ((s : S) → P r s → new ≡ out ++ f s)
    → Left P f all out init ss → Left P f rest new init ss
left_more P f r all rest out new init ss is more l = more_by P f r rest out new init ss l.left more (subst (λ (rs : List _). AreEach P rs l.left) is l.are) l.is

end_by : {R S X : Type 0} (P : R → S → Type 0) (f : S → List X) (out init : List X) (ss left : List S) → AreEach P [] left → out ++ flat_map f left ≡ init ++ flat_map f ss → out ≡ init ++ flat_map f ss
end_by P f out init ss [] are is = sym (append-nil out) ∙ is
end_by P f out init ss (s ∷ left) are is = absurd are

pub left_end : {R S X : Type 0} (P : R → S → Type 0) (f : S → List X) (all : List R) (out init : List X) (ss : List S) → all ≡ [] → Left P f all out init ss → out ≡ init ++ flat_map f ss
left_end P f all out init ss none l = end_by P f out init ss l.left (subst (λ (rs : List _). AreEach P rs l.left) none l.are) l.is

-- ---- numbers one behind the other

pub numbered_append : (make : ℕ → Source) (from a b : ℕ) → numbered make from (a + b) ≡ numbered make from a ++ numbered make (from + a) b
numbered_append make from zero b =
    let none : zero + b ≡ b = omega arith in
    let e : from ≡ from + 0 = omega arith in
    ap (numbered make from) none ∙ ap (λ n. numbered make n b) e
numbered_append make from (suc a) b =
    let one : suc a + b ≡ suc (a + b) = omega arith in
    let e : suc from + a ≡ from + suc a = omega arith in
    ap (numbered make from) one ∙ ap (λ xs. make from ∷ xs) (numbered_append make (suc from) a b ∙ ap (λ n. numbered make (suc from) a ++ numbered make n b) e)

pub numbered_more : (make : ℕ → Source) (from n : ℕ) → numbered make from (n + 1) ≡ numbered make from n ++ make (from + n) ∷ []
numbered_more make from n = numbered_append make from n 1

pub length_numbered : (make : ℕ → Source) (from n : ℕ) → length (numbered make from n) ≡ n
length_numbered make from zero = refl
length_numbered make from (suc n) = ap suc (length_numbered make (suc from) n)

-- ---- slots of a line

pub adds_none : (start : ℕ) (out : List Source) → start ≤ length out → Adds start 0 out out
adds_none start out begun = record { is = sym (append-nil out); begun = begun }

pub adds_all : (start a b : ℕ) (old mid new : List Source) → Adds start a old mid → Adds start b mid new → Adds start (a + b) old new
adds_all start a b old mid new one two =
    let size : length mid ≡ length old + length (numbered (λ i. Line i) (length old - start) a) = ap length one.is ∙ length-append old (numbered (λ i. Line i) (length old - start) a) in
    let count : length (numbered (λ i. Line i) (length old - start) a) ≡ a = length_numbered (λ i. Line i) (length old - start) a in
    let begun : start ≤ length old = one.begun in
    let there : length mid - start ≡ (length old - start) + a = omega (arith, size, count, begun) in
    record {
      is = two.is ∙ ap (λ xs. xs ++ numbered (λ i. Line i) (length mid - start) b) one.is ∙ append_assoc old (numbered (λ i. Line i) (length old - start) a) (numbered (λ i. Line i) (length mid - start) b)
          ∙ ap (λ n. old ++ (numbered (λ i. Line i) (length old - start) a ++ numbered (λ i. Line i) n b)) there
          ∙ ap (λ xs. old ++ xs) (sym (numbered_append (λ i. Line i) (length old - start) a b));
      begun = begun;
    }

pub adds_long : (start a : ℕ) (old new : List Source) → Adds start a old new → start ≤ length new
adds_long start a old new one =
    let size : length new ≡ length old + length (numbered (λ i. Line i) (length old - start) a) = ap length one.is ∙ length-append old (numbered (λ i. Line i) (length old - start) a) in
    omega (arith, size, one.begun)

-- one more behind so many
pub adds_one : (start n place : ℕ) (old out new : List Source) → Adds start n old out → place ≡ length out - start → new ≡ out ++ Line place ∷ [] → Adds start (n + 1) old new
adds_one start n place old out new before at is =
    let long : start ≤ length out = adds_long start n old out before in
    adds_all start n 1 old out new before (record { is = is ∙ ap (λ k. out ++ Line k ∷ []) at; begun = long })

pub adds_next : (start n : ℕ) (old out new : List Source) → Adds start n old out → new ≡ out ++ Line (length out - start) ∷ [] → Adds start (n + 1) old new
adds_next start n old out new before is = adds_one start n (length out - start) old out new before refl is

pub adds_three : (start a b c : ℕ) (old mid new : List Source) → Adds start (a + b) old mid → Adds start c mid new → Adds start (a + (b + c)) old new
adds_three start a b c old mid new one two =
    let e : (a + b) + c ≡ a + (b + c) = omega arith in
    subst (λ n. Adds start n old new) e (adds_all start (a + b) c old mid new one two)

-- one more of the class's name
pub names_more : (n : ℕ) (old out new : List Source) → out ≡ old ++ numbered (λ i. Name i) 0 n → new ≡ out ++ Name n ∷ [] → new ≡ old ++ numbered (λ i. Name i) 0 (n + 1)
names_more n old out new before is =
    let e : n ≡ 0 + n = omega arith in
    is ∙ ap (λ xs. xs ++ Name n ∷ []) before ∙ append_assoc old (numbered (λ i. Name i) 0 n) (Name n ∷ []) ∙ ap (λ k. old ++ (numbered (λ i. Name i) 0 n ++ Name k ∷ [])) e ∙ ap (λ xs. old ++ xs) (sym (numbered_more (λ i. Name i) 0 n))

-- where there is not one name alone
pub many_names : (names : List NamePattern) (ws : List Word) → (length names ≡ 1 → ⊥) → AreEach IsPatternOf names ws → flat_map (λ w. blanks (name_wilds w)) ws ≡ name_slots ws
many_names names [] many are = refl
many_names [] (w ∷ []) many are = absurd are
many_names (n ∷ []) (w ∷ []) many are = absurd (many refl)
many_names (n ∷ m ∷ names) (w ∷ []) many are = absurd are.1
many_names names (w ∷ v ∷ ws) many are = refl

-- with what is said of the slots of the only name it is said of those of the names
pub only_name : (P : List Source → Type 0) (names : List NamePattern) (n : NamePattern) (ws : List Word) → length names ≡ 1 → n ≡ get_or names 0 n → AreEach IsPatternOf names ws
    → ((w : Word) → IsPatternOf n w → P (numbered (λ i. Name i) 0 (name_wilds w))) → P (name_slots ws)
only_name P [] n ws size is are says = absurd (omega (arith, size))
only_name P (x ∷ []) n [] size is are says = absurd are
only_name P (x ∷ []) n (w ∷ []) size is are says = says w (subst (λ y. IsPatternOf y w) (sym is) are.0)
only_name P (x ∷ []) n (w ∷ v ∷ ws) size is are says = absurd are.1
only_name P (x ∷ y ∷ names) n ws size is are says = absurd (omega (arith, size))

-- where there is not one line alone
pub many_lines : (read : Option (Vec ReadMember Global)) (v : Vec ReadMember Global) (ms : Option (List MemberRule)) → read ≡ Some v → (length v.items ≡ 1 → ⊥) → AreBoth AreMembersOf read ms → members_slots ms ≡ []
many_lines read v ms is many are = by ms (subst (λ r. AreBoth AreMembersOf r ms) is are)
  where
    lines : (rs : List ReadMember) (ms : List MemberRule) → (length rs ≡ 1 → ⊥) → AreEach IsMemberOf rs ms → lines_slots ms ≡ []
    lines rs [] many are = refl
    lines [] (m ∷ []) many are = absurd are
    lines (r ∷ []) (m ∷ []) many are = absurd (many refl)
    lines (r ∷ q ∷ rs) (m ∷ []) many are = absurd are.1
    lines rs (m ∷ k ∷ ms) many are = refl

    by : (ms : Option (List MemberRule)) → AreBoth AreMembersOf (Some v) ms → members_slots ms ≡ []
    by None are = absurd are
    by (Some ms) are = lines v.items ms many are

-- what a line names, by its kind
pub what_field : (P : ℕ → Type 0) (x : ReadWhat) (t : TypePattern) (p : NamePattern) (w : What) → x ≡ what.Field t p → IsWhatOf x w → ((k n : Word) → IsTypeOf t k → IsPatternOf p n → P (type_wilds k + name_wilds n)) → P (what_wilds w)
what_field P x t p w e is says = by t p w (subst (λ x. IsWhatOf x w) e is) says
  where
    by : (t : TypePattern) (p : NamePattern) (w : What) → IsWhatOf (what.Field t p) w → ((k n : Word) → IsTypeOf t k → IsPatternOf p n → P (type_wilds k + name_wilds n)) → P (what_wilds w)
    by _ _ _ (OfField t p k n of is) says = says k n of is

pub what_method : (P : ℕ → Type 0) (x : ReadWhat) (t : TypePattern) (p : NamePattern) (read : ReadArguments) (w : What) → x ≡ what.Method t p read → IsWhatOf x w
    → ((k n : Word) (a : Arguments) → IsTypeOf t k → IsPatternOf p n → AreArgumentsOf read a → P (type_wilds k + (name_wilds n + argument_wilds a))) → P (what_wilds w)
what_method P x t p read w e is says = by t p read w (subst (λ x. IsWhatOf x w) e is) says
  where
    by : (t : TypePattern) (p : NamePattern) (read : ReadArguments) (w : What) → IsWhatOf (what.Method t p read) w
        → ((k n : Word) (a : Arguments) → IsTypeOf t k → IsPatternOf p n → AreArgumentsOf read a → P (type_wilds k + (name_wilds n + argument_wilds a))) → P (what_wilds w)
    by _ _ _ _ (OfMethod t p read k n a of is are) says = says k n a of is are

-- the types of arguments that are left
pub record LeftTypes (start : ℕ) (rest : List TypePattern) (out init : List Source) (ws : List Word) : Type 0 where
  pub left : List Word
  pub are : AreEach IsTypeOf rest left
  pub done : ℕ
  pub count : done + types_wilds left ≡ types_wilds ws
  pub adds : Adds start done init out

pub types_begin : (start : ℕ) (ts : List TypePattern) (init : List Source) (ws : List Word) → start ≤ length init → AreEach IsTypeOf ts ws → LeftTypes start ts init init ws
types_begin start ts init ws begun are = record { left = ws; are = are; done = 0; count = (omega arith); adds = adds_none start init begun }

types_by : (start : ℕ) (t : TypePattern) (rest : List TypePattern) (out new init : List Source) (ws left : List Word) (done : ℕ) → ((w : Word) → IsTypeOf t w → Adds start (type_wilds w) out new)
    → AreEach IsTypeOf (t ∷ rest) left → done + types_wilds left ≡ types_wilds ws → Adds start done init out → LeftTypes start rest new init ws
types_by start t rest out new init ws [] done more are count adds = absurd are
types_by start t rest out new init ws (w ∷ left) done more are count adds =
    let here : types_wilds (w ∷ left) ≡ type_wilds w + types_wilds left = refl in
    record {
      left = left;
      are = are.1;
      done = done + type_wilds w;
      count = omega (arith, here, count);
      adds = adds_all start done (type_wilds w) init out new adds (more w are.0);
    }

pub types_more : (start : ℕ) (t : TypePattern) (all rest : List TypePattern) (out new init : List Source) (ws : List Word) → all ≡ t ∷ rest → ((w : Word) → IsTypeOf t w → Adds start (type_wilds w) out new)
    → LeftTypes start all out init ws → LeftTypes start rest new init ws
types_more start t all rest out new init ws is more l = types_by start t rest out new init ws l.left l.done more (subst (λ (ts : List TypePattern). AreEach IsTypeOf ts l.left) is l.are) l.count l.adds

types_end_by : (start : ℕ) (out init : List Source) (ws left : List Word) (done : ℕ) → AreEach IsTypeOf [] left → done + types_wilds left ≡ types_wilds ws → Adds start done init out → Adds start (types_wilds ws) init out
types_end_by start out init ws [] done are count adds =
    let e : done ≡ types_wilds ws = omega (arith, count) in
    subst (λ n. Adds start n init out) e adds
types_end_by start out init ws (w ∷ left) done are count adds = absurd are

pub types_end : (start : ℕ) (all : List TypePattern) (out init : List Source) (ws : List Word) → all ≡ [] → LeftTypes start all out init ws → Adds start (types_wilds ws) init out
types_end start all out init ws none l = types_end_by start out init ws l.left l.done (subst (λ (ts : List TypePattern). AreEach IsTypeOf ts l.left) none l.are) l.count l.adds
