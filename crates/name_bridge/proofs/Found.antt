-- The first method along some classes by number is the first by name.
use Rattle.std.proofs.Common.{◌≡◌, ℕ, ◌<◌, Bool, true, false, List, [], ◌∷◌, length, Option, Some, None, refl, sym, ap, ◌∙◌}
use Rattle.std.specs.Prelude.{◌&&◌, ◌||◌, ◌==◌, not, cond, slice_get, position, option_and_then, unwrap_or}
use Rattle.std.specs.Option.{option_map, option_or}
use Rattle.std.proofs.lemmas.Option.{unwrap_or-slice_get}
use Rattle.program_model.specs.declared.pools.MethodName.{MethodName}
use Rattle.program_model.specs.declared.program.Method.{Method}
use Rattle.program_model.specs.declared.program.MethodAt.{MethodAt}
use Rattle.program_model.specs.declared.program.Class.{Class}
use Rattle.program_model.specs.declared.program.Program.{Program}
use Rattle.program_model.specs.Lookups as look
use Rattle.program_model.specs.Texts.{string_text, text_or_none, type_text, first_unit}
use Rattle.program_model.specs.MemberRules.{is_direct, is_static, is_private, name_of_method}
use Rattle.class_defs.specs.Members.{is_method, method_of_class, own_method, is_virtual, virtual_only, own_virtual}
use Rattle.class_defs.specs.Finding.{first_among}
use Rattle.dalvik_defs.specs.Names.{Text}
use Rattle.dalvik_defs.specs.Flags as remainder
use Rattle.dalvik_defs.specs.Naming.{text_at, type_at, signature_at, method_at, named_class, named_method}
use Rattle.dalvik_defs.specs.Find.{Found, found_in, method_in, passing, first_method, is_virtual_method}
use Rattle.dalvik_defs.specs.declared.names.Signature.{Signature}
use Rattle.dalvik_defs.specs.declared.names.MethodKey.{MethodKey}
use Rattle.dalvik_defs.specs.declared.program.NamedMethod.{NamedMethod}
use Rattle.dalvik_defs.specs.declared.program.NamedClass.{NamedClass}
use Rattle.name_bridge.specs.Named.{class_at, with_class, classes_at, found_there, found_of, found_at}
use Rattle.name_bridge.proofs.Tables.{Sound}
use Rattle.name_bridge.proofs.Lists.{find_place, place_entry}
use Rattle.name_bridge.proofs.Flags.{static_flag, private_flag}
use Rattle.name_bridge.proofs.Classes.{method_by_number}

-- ---- texts

pub text_same : (p : Program) (n : ℕ) → text_at p n ≡ string_text p n
text_same p n = by_entry (slice_get p.strings n) ∙ unwrap_or-slice_get p.strings n []
  where
    by_entry : (o : Option Text) → elim o as (λ o. Text) [ Some t ↦ t | None ↦ [] ] ≡ unwrap_or o []
    by_entry None = refl
    by_entry (Some t) = refl

pub type_same : (p : Program) (k : ℕ) → type_at p k ≡ type_text p k
unfolding type_text
type_same p k = by_entry (slice_get p.types k)
  where
    by_entry : (o : Option ℕ) → elim o as (λ o. Text) [ Some t ↦ text_at p t | None ↦ [] ] ≡ text_or_none p o
    by_entry None = refl
    by_entry (Some t) = text_same p t

-- ---- virtual methods

special_same : (t : Text) → remainder.is_special t ≡ (first_unit t == 60)
special_same [] = refl
special_same (u ∷ us) = refl

name_same : (p : Program) (i : ℕ) → (method_at p i).name ≡ name_of_method p (slice_get p.methods i)
name_same p i = by_entry (slice_get p.methods i)
  where
    by_entry : (o : Option MethodName) → (elim o as (λ o. MethodKey) [ Some m ↦ record { class = type_at p m.class; name = text_at p m.name; signature = signature_at p m.proto } | None ↦ record { class = []; name = []; signature = record { parameters = []; result = [] } } ]).name ≡ name_of_method p o
    by_entry None = refl
    by_entry (Some m) = text_same p m.name

neither : (a b c : Bool) → (not a && not b && not c) ≡ not ((a || b) || c)
neither true b c = refl
neither false true c = refl
neither false false c = refl

-- calls find a method by its receiver by number exactly where they do by name
pub virtual_test : (p : Program) (m : Method) → is_virtual_method (named_method p m) ≡ not (is_direct p m)
unfolding is_direct
virtual_test p m =
    ap (λ x. not x && not (remainder.is_private m.flags.0) && not (remainder.is_special (method_at p m.name).name)) (sym (static_flag m.flags))
    ∙ ap (λ x. not (is_static m.flags) && not x && not (remainder.is_special (method_at p m.name).name)) (sym (private_flag m.flags))
    ∙ ap (λ x. not (is_static m.flags) && not (is_private m.flags) && not x) (special_same (method_at p m.name).name ∙ ap (λ t. first_unit t == 60) (name_same p m.name))
    ∙ neither (is_static m.flags) (is_private m.flags) (first_unit (name_of_method p (slice_get p.methods m.name)) == 60)

-- ---- methods at places

pub record IsThere (p : Program) (at : MethodAt) : Type 0 where
  pub class : Class
  pub is_class : slice_get p.classes at.class ≡ Some class
  pub method : Method
  pub is_method : slice_get class.methods at.place ≡ Some method

pub found_there_is : (p : Program) (at : MethodAt) (t : IsThere p at) → found_at p at ≡ Some (found_in (named_class p t.class) (named_method p t.method))
found_there_is p at t = ap (found_of p at.place) t.is_class ∙ ap (found_there p t.class) t.is_method

pub looked_up : (p : Program) (at : MethodAt) (t : IsThere p at) → look.method_at p at ≡ Some t.method
looked_up p at t = ap (option_and_then (λ c. slice_get c.methods at.place)) t.is_class ∙ t.is_method

pub record FoundParts (p : Program) (at : MethodAt) (f : Found) : Type 0 where
  pub there : IsThere p at
  pub found : f ≡ found_in (named_class p there.class) (named_method p there.method)

pub found_parts : (p : Program) (at : MethodAt) (f : Found) → found_at p at ≡ Some f → FoundParts p at f
found_parts p at f e = by_class (slice_get p.classes at.class) refl e
  where
    by_method : (k : Class) (o : Option Method) → slice_get p.classes at.class ≡ Some k → slice_get k.methods at.place ≡ o → found_there p k o ≡ Some f → FoundParts p at f
    by_method k None g h e = cc
    by_method k (Some m) g h e = record { there = record { class = k; is_class = g; method = m; is_method = h }; found = (let x : found_in (named_class p k) (named_method p m) ≡ f = cc in sym x) }

    by_class : (o : Option Class) → slice_get p.classes at.class ≡ o → found_of p at.place o ≡ Some f → FoundParts p at f
    by_class None g e = cc
    by_class (Some k) g e = by_method k (slice_get k.methods at.place) g refl e

-- what a class itself answers
abbrev pub in_class : (NamedMethod → Bool) → Text → Signature → Option NamedClass → Option Found
in_class t n s None = None
in_class t n s (Some c) = passing t c (method_in c n s)

-- a look-up in one class by number is one by name, and answers methods that there are
pub record Answers (p : Program) (t : NamedMethod → Bool) (n : Text) (s : Signature) (f : ℕ → Option MethodAt) : Type 0 where
  pub same : (c : ℕ) → in_class t n s (class_at p c) ≡ option_and_then (found_at p) (f c)
  pub there : (c : ℕ) (at : MethodAt) → f c ≡ Some at → IsThere p at

or_found : (p : Program) (o rest : Option MethodAt) → ((at : MethodAt) → o ≡ Some at → IsThere p at)
    → option_or (option_and_then (found_at p) o) (option_and_then (found_at p) rest) ≡ option_and_then (found_at p) (option_or o rest)
or_found p None rest h = refl
or_found p (Some at) rest h = ap (λ f. option_or f (option_and_then (found_at p) rest)) (found_there_is p at (h at refl)) ∙ sym (found_there_is p at (h at refl))

-- the first along some classes
pub first_by_number : (p : Program) (t : NamedMethod → Bool) (n : Text) (s : Signature) (f : ℕ → Option MethodAt) → Answers p t n s f → (cs : List ℕ)
    → first_method t n s (classes_at p cs) ≡ option_and_then (found_at p) (first_among f cs)
first_by_number p t n s f h [] = refl
first_by_number p t n s f h (c ∷ cs) =
    by_class (slice_get p.classes c)
    ∙ ap (λ o. option_or o (first_method t n s (classes_at p cs))) (h.same c)
    ∙ ap (option_or (option_and_then (found_at p) (f c))) (first_by_number p t n s f h cs)
    ∙ or_found p (f c) (first_among f cs) (h.there c)
  where
    by_class : (o : Option Class) → first_method t n s (with_class p o (classes_at p cs)) ≡ option_or (in_class t n s (option_map (named_class p) o)) (first_method t n s (classes_at p cs))
    by_class None = refl
    by_class (Some k) = refl

pub first_there : (p : Program) (f : ℕ → Option MethodAt) → ((c : ℕ) (at : MethodAt) → f c ≡ Some at → IsThere p at) → (cs : List ℕ) (at : MethodAt) → first_among f cs ≡ Some at → IsThere p at
first_there p f h [] at e = cc
first_there p f h (c ∷ cs) at e = by_first (first_there p f h cs at) (f c) refl e
  where
    by_first : (first_among f cs ≡ Some at → IsThere p at) → (o : Option MethodAt) → f c ≡ o → option_or o (first_among f cs) ≡ Some at → IsThere p at
    by_first more None g e = more e
    by_first more (Some one) g e = h c at (g ∙ e)

module _ (p : Program) (s : Sound p) (n q : ℕ) (hn : n < length p.strings) (hq : q < length p.protos) where
  own_there : (c : ℕ) (at : MethodAt) → own_method p n q c ≡ Some at → IsThere p at
  own_there c at e = by_class (slice_get p.classes c) refl e
    where
      by_place : (k : Class) (o : Option ℕ) → slice_get p.classes c ≡ Some k → position (is_method p n q) k.methods ≡ o → ◌≡◌ {A = Option MethodAt} (option_map (λ i. record { class = c; place = i }) o) (Some at) → IsThere p at
      by_place k None g h e = cc
      by_place k (Some i) g h e =
          let same : ◌≡◌ {A = MethodAt} (record { class = c; place = i }) at = cc in
          let r = place_entry (is_method p n q) k.methods i h in
          record { class = k; is_class = ap (λ a. slice_get p.classes a.class) (sym same) ∙ g; method = r.entry; is_method = ap (λ a. slice_get k.methods a.place) (sym same) ∙ r.is }

      by_class : (o : Option Class) → slice_get p.classes c ≡ o → method_of_class p n q c o ≡ Some at → IsThere p at
      by_class None g e = cc
      by_class (Some k) g e = by_place k (position (is_method p n q) k.methods) g refl e

  -- the method of a name and a proto of a class, if it passes the test
  own_named : (t : NamedMethod → Bool) (u : Option Method → Bool) → ((m : Method) → t (named_method p m) ≡ u (Some m)) → (c : ℕ)
      → in_class t (text_at p n) (signature_at p q) (class_at p c) ≡ option_and_then (found_at p) (option_and_then (λ at. cond (u (look.method_at p at)) (Some at) None) (own_method p n q c))
  own_named t u agree c = by_class (slice_get p.classes c) refl
    where
      by_test : (k : Class) (i : ℕ) (m : Method) → slice_get p.classes c ≡ Some k → slice_get k.methods i ≡ Some m → (b : Bool) → u (Some m) ≡ b
          → elim (t (named_method p m)) as (λ b. Option Found) [ true ↦ Some (found_in (named_class p k) (named_method p m)) | false ↦ None ]
          ≡ option_and_then (found_at p) (cond (u (look.method_at p (record { class = c; place = i }))) (Some (record { class = c; place = i })) None)
      by_test k i m g h b e =
          let there : IsThere p (record { class = c; place = i }) = record { class = k; is_class = g; method = m; is_method = h } in
          ap (λ b. elim b as (λ b. Option Found) [ true ↦ Some (found_in (named_class p k) (named_method p m)) | false ↦ None ]) (agree m ∙ e)
          ∙ by_value there b
          ∙ sym (ap (λ b. option_and_then (found_at p) (cond b (Some (record { class = c; place = i })) None)) (ap u (looked_up p (record { class = c; place = i }) there) ∙ e))
        where
          by_value : (there : IsThere p (record { class = c; place = i })) (b : Bool) → elim b as (λ b. Option Found) [ true ↦ Some (found_in (named_class p k) (named_method p m)) | false ↦ None ]
              ≡ option_and_then (found_at p) (cond b (Some (record { class = c; place = i })) None)
          by_value there false = refl
          by_value there true = sym (ap (found_of p i) g ∙ ap (found_there p k) h)

      by_place : (k : Class) → slice_get p.classes c ≡ Some k → (o : Option ℕ) → position (is_method p n q) k.methods ≡ o
          → passing t (named_class p k) (option_map (named_method p) (option_and_then (slice_get k.methods) o))
          ≡ option_and_then (found_at p) (option_and_then (λ at. cond (u (look.method_at p at)) (Some at) None) (option_map (λ i. record { class = c; place = i }) o))
      by_place k g None h = refl
      by_place k g (Some i) h = let r = place_entry (is_method p n q) k.methods i h in
          ap (λ o. passing t (named_class p k) (option_map (named_method p) o)) r.is ∙ by_test k i r.entry g r.is (u (Some r.entry)) refl

      by_class : (o : Option Class) → slice_get p.classes c ≡ o
          → in_class t (text_at p n) (signature_at p q) (option_map (named_class p) o) ≡ option_and_then (found_at p) (option_and_then (λ at. cond (u (look.method_at p at)) (Some at) None) (method_of_class p n q c o))
      by_class None g = refl
      by_class (Some k) g =
          ap (passing t (named_class p k)) (method_by_number p s c k n q g hn hq ∙ ap (option_map (named_method p)) (find_place (is_method p n q) k.methods))
          ∙ by_place k g (position (is_method p n q) k.methods) refl

  every : (o : Option MethodAt) → option_and_then (λ at. cond true (Some at) None) o ≡ o
  every None = refl
  every (Some at) = refl

  only : (o : Option MethodAt) → option_and_then (λ at. cond (is_virtual p (look.method_at p at)) (Some at) None) o ≡ virtual_only p o
  only None = refl
  only (Some at) = refl

  virtual_there : (c : ℕ) (at : MethodAt) → own_virtual p n q c ≡ Some at → IsThere p at
  virtual_there c at e = by_own (own_method p n q c) refl e
    where
      by_test : (one : MethodAt) (b : Bool) → own_method p n q c ≡ Some one → cond b (Some one) None ≡ Some at → IsThere p at
      by_test one true g e = own_there c at (g ∙ e)
      by_test one false g e = cc

      by_own : (o : Option MethodAt) → own_method p n q c ≡ o → virtual_only p o ≡ Some at → IsThere p at
      by_own None g e = cc
      by_own (Some one) g e = by_test one (is_virtual p (look.method_at p one)) g e

  pub own_answers : Answers p (λ m. true) (text_at p n) (signature_at p q) (own_method p n q)
  own_answers = record {
    same = λ c. own_named (λ m. true) (λ o. true) (λ m. refl) c ∙ ap (option_and_then (found_at p)) (every (own_method p n q c));
    there = own_there;
  }

  pub virtual_answers : Answers p is_virtual_method (text_at p n) (signature_at p q) (own_virtual p n q)
  virtual_answers = record {
    same = λ c. own_named is_virtual_method (is_virtual p) (virtual_test p) c ∙ ap (option_and_then (found_at p)) (only (own_method p n q c));
    there = virtual_there;
  }
