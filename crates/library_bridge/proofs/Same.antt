-- Whether a method is shut, by number and by names.
use Rattle.std.proofs.Common.{◌≡◌, ℕ, zero, suc, ◌+◌, ◌<◌, Bool, true, false, true≢false, nat_eq, List, [], ◌∷◌, map, length, Option, Some, None, refl, sym, ap, ◌∙◌, arith}
use Rattle.std.specs.Prelude.{◌&&◌, ◌||◌, not, is_some, is_none, slice_get, option_and_then}
use Rattle.std.specs.Option.{option_map}
use Rattle.std.specs.List.{list_any, list_all}
use Rattle.std.proofs.lemmas.Option.{slice_get_within}
use Rattle.insn_set.specs.declared.form.Insn.{Insn}
use Rattle.insn_set.specs.declared.form.Insn.TheVariants as insn
use Rattle.insn_set.specs.declared.ops.InvokeKind.{InvokeKind}
use Rattle.insn_set.specs.declared.ops.InvokeKind.TheVariants as call
use Rattle.program_model.specs.Lookups.{class_place}
use Rattle.program_model.specs.MemberRules.{has_flag, is_direct, is_object, class_fits}
use Rattle.program_model.specs.Texts.{has_type, string_text, type_text}
use Rattle.program_model.specs.declared.pools.MethodName.{MethodName}
use Rattle.program_model.specs.declared.pass.Outside.{Outside}
use Rattle.program_model.specs.declared.body.Body.{Body}
use Rattle.program_model.specs.declared.program.Method.{Method}
use Rattle.program_model.specs.declared.program.MethodAt.{MethodAt}
use Rattle.program_model.specs.declared.program.Class.{Class}
use Rattle.program_model.specs.declared.program.Program.{Program}
use Rattle.class_defs.specs.ClassGraph.{IsTwice}
use Rattle.class_defs.specs.Places.{is_under}
use Rattle.class_defs.specs.Members as number
use Rattle.class_defs.specs.Members.{names_method}
use Rattle.class_defs.specs.Finding as look
use Rattle.class_defs.specs.Finding.{Search}
use Rattle.class_defs.proofs.Positions.{same_test, number_of, number_test}
use Rattle.class_defs.proofs.WellFormed.{and_left, and_right, all_at}
use Rattle.dalvik_defs.specs.Flags as remainder
use Rattle.dalvik_defs.specs.Find as find
use Rattle.dalvik_defs.specs.Find.{Found, is_virtual_method, finds_at}
use Rattle.dalvik_defs.specs.Names as spelled
use Rattle.dalvik_defs.specs.Names.{Text, text_eq, signature_eq, method_eq, same_name, is_common, object_type}
use Rattle.dalvik_defs.specs.Naming.{text_at, type_at, signature_at, method_at, form_of, body_of, named_class, named_method, named}
use Rattle.dalvik_defs.specs.Outer.{Outer, outer_of, methods_in}
use Rattle.dalvik_defs.specs.Under.{defines, is_own_under}
use Rattle.dalvik_defs.specs.Shut as shut
use Rattle.dalvik_defs.specs.Shut.{key_of, is_found_as, names_outside}
use Rattle.dalvik_defs.specs.declared.names.Signature.{Signature}
use Rattle.dalvik_defs.specs.declared.names.MethodKey.{MethodKey}
use Rattle.dalvik_defs.specs.declared.program.NamedBody.{NamedBody}
use Rattle.dalvik_defs.specs.declared.program.NamedClass.{NamedClass}
use Rattle.dalvik_defs.specs.declared.program.NamedMethod.{NamedMethod}
use Rattle.dalvik_defs.proofs.Calm.{text_sound}
use Rattle.name_bridge.specs.Named.{class_at, search_at, finds}
use Rattle.name_bridge.proofs.Tables.{Sound, method_is, method_class, method_name, method_proto, method_once}
use Rattle.name_bridge.proofs.Classes.{ClassFits, MethodFits, class_parts, text_test, type_test, signature_test, class_by_number}
use Rattle.name_bridge.proofs.Above.{defined, own_place, under_by_number}
use Rattle.name_bridge.proofs.Candidates.{common_test, version_test, coded_test, finds_at_by_number}
use Rattle.name_bridge.proofs.Found.{text_same, type_same, virtual_test, IsThere, found_there_is}
use Rattle.name_bridge.proofs.Flags.{interface_flag}
use Rattle.removal_law.proofs.Members.{signature_sound}
use Rattle.removal_law.proofs.Declared.{method_same}
use Rattle.stub_library.specs.Shut.{each_class, if_entry, type_clear, types_clear, is_found_in, finds_it, is_outside, calls_outside, called_outside, is_kept, keeps_name, keeper_over, is_other, is_loose, is_clear_at, is_shut, walk_clear}
use Rattle.stub_library.specs.Stubs.{proto_text}
use Rattle.stub_library.specs.declared.library.Library.{Library}
use Rattle.library_bridge.specs.Libraries.{library_of}
use Rattle.library_bridge.proofs.Tests.{all_named, any_named, each_named, some_named, proto_named, walk_named}
use Rattle.stub_library.proofs.Finds.{OwnVirtual}
use Rattle.library_bridge.proofs.Numbers as fit
use Rattle.library_bridge.proofs.Owned.{own_found}

pub sound_key : (a b : MethodKey) → method_eq a b ≡ true → a ≡ b
sound_key a b t =
    let two = and_left (text_eq a.class b.class && text_eq a.name b.name) (signature_eq a.signature b.signature) t in
    let x : a.class ≡ b.class = text_sound a.class b.class (and_left (text_eq a.class b.class) (text_eq a.name b.name) two) in
    let y : a.name ≡ b.name = text_sound a.name b.name (and_right (text_eq a.class b.class) (text_eq a.name b.name) two) in
    let z : a.signature ≡ b.signature = signature_sound a.signature b.signature (and_right (text_eq a.class b.class && text_eq a.name b.name) (signature_eq a.signature b.signature) t) in
    ap (λ (w : Text). record { class = w; name = a.name; signature = a.signature }) x ∙ ap (λ (w : Text). record { class = b.class; name = w; signature = a.signature }) y ∙ ap (λ (w : Signature). record { class = b.class; name = b.name; signature = w }) z

module _ (p : Program) (s : Sound p) (once : (class : ℕ) → IsTwice p class → ⊥) (o : Outside) (l : Library) where
  abbrev O : Outer
  O = outer_of p o

  -- ---- keys

  key_is : (q : MethodName) (n : ℕ) → slice_get p.methods n ≡ Some q → method_at p n ≡ record { class = type_at p q.class; name = text_at p q.name; signature = signature_at p q.proto }
  key_is q n e = method_is p s n q e

  name_is : (m : Method) (q : MethodName) → slice_get p.methods m.name ≡ Some q → (named_method p m).name ≡ text_at p q.name
  name_is m q e = ap (λ k. k.name) (key_is q m.name e)

  signature_is : (m : Method) (q : MethodName) → slice_get p.methods m.name ≡ Some q → (named_method p m).signature ≡ signature_at p q.proto
  signature_is m q e = ap (λ k. k.signature) (key_is q m.name e)

  pub own_key : (c i : ℕ) (k : Class) (m : Method) → slice_get p.classes c ≡ Some k → slice_get k.methods i ≡ Some m → method_at p m.name ≡ key_of (named_class p k) (named_method p m)
  own_key c i k m e f =
      let fits : MethodFits p k.name m = (class_parts p s c k e).methods i m f in
      ap (λ t. record { class = t; name = (method_at p m.name).name; signature = (method_at p m.name).signature }) (ap (λ x. x.class) (key_is fits.entry m.name fits.is) ∙ ap (type_at p) fits.owner)

  -- names and protos are the same by number
  names_same : (a b : MethodName) (i j : ℕ) → slice_get p.methods i ≡ Some a → slice_get p.methods j ≡ Some b
      → same_name (text_at p a.name) (signature_at p a.proto) (text_at p b.name) (signature_at p b.proto) ≡ (nat_eq a.name b.name && nat_eq a.proto b.proto)
  names_same a b i j e f =
      ap (λ x. x && signature_eq (signature_at p a.proto) (signature_at p b.proto)) (text_test p s a.name b.name (method_name p s i a e) (method_name p s j b f))
      ∙ ap (λ x. nat_eq a.name b.name && x) (signature_test p s a.proto b.proto (method_proto p s i a e) (method_proto p s j b f))

  named_same : (x : Method) (a : MethodName) (q : MethodName) (j : ℕ) → slice_get p.methods x.name ≡ Some a → slice_get p.methods j ≡ Some q
      → same_name (named_method p x).name (named_method p x).signature (text_at p q.name) (signature_at p q.proto) ≡ names_method q.name q.proto (slice_get p.methods x.name)
  named_same x a q j e f =
      ap (λ k. same_name k.name k.signature (text_at p q.name) (signature_at p q.proto)) (key_is a x.name e)
      ∙ names_same a q x.name j e f ∙ sym (ap (names_method q.name q.proto) e)

  -- a method of a class is among some numbers by its key where it is by its number
  pub among : (c i : ℕ) (k : Class) (m : Method) → slice_get p.classes c ≡ Some k → slice_get k.methods i ≡ Some m → (ns : List ℕ) → methods_in p ns (key_of (named_class p k) (named_method p m)) ≡ list_any (nat_eq m.name) ns
  among c i k m e f [] = refl
  among c i k m e f (n ∷ ns) = ap (λ b. b || methods_in p ns (key_of (named_class p k) (named_method p m))) one ∙ ap (λ b. nat_eq m.name n || b) (among c i k m e f ns)
    where
      fits : MethodFits p k.name m
      fits = (class_parts p s c k e).methods i m f

      short : m.name < length p.methods
      short = slice_get_within p.methods m.name fits.entry fits.is

      there : (q : Option MethodName) → slice_get p.methods n ≡ q → method_at p n ≡ method_at p m.name → m.name ≡ n
      there (Some q) g t = sym (method_once p s n m.name (slice_get_within p.methods n q g) short t)
      there None g t =
          let blank : type_text p k.name ≡ [] = sym (type_same p k.name) ∙ ap (type_at p) (sym fits.owner) ∙ sym (ap (λ x. x.class) (key_is fits.entry m.name fits.is)) ∙ sym (ap (λ x. x.class) t) ∙ empty g in
          absurd (true≢false (fit.class_named p k (all_at (class_fits p) p.classes c k s.classes_fit e) blank))
        where
          empty : slice_get p.methods n ≡ None → (method_at p n).class ≡ []
          empty g = ap (λ (x : Option MethodName). (elim x as (λ x. MethodKey) [ Some m ↦ record { class = type_at p m.class; name = text_at p m.name; signature = signature_at p m.proto } | None ↦ record { class = []; name = []; signature = record { parameters = []; result = [] } } ]).class) g

      one : method_eq (method_at p n) (key_of (named_class p k) (named_method p m)) ≡ nat_eq m.name n
      one = same_test (method_eq (method_at p n) (key_of (named_class p k) (named_method p m))) (nat_eq m.name n)
          (λ t. number_test m.name n (there (slice_get p.methods n) refl (sound_key (method_at p n) (key_of (named_class p k) (named_method p m)) t ∙ sym (own_key c i k m e f))))
          (λ t. ap (λ x. method_eq (method_at p x) (key_of (named_class p k) (named_method p m))) (sym (number_of m.name n t)) ∙ ap (λ x. method_eq x (key_of (named_class p k) (named_method p m))) (own_key c i k m e f)
          ∙ method_same (key_of (named_class p k) (named_method p m)))

  -- ---- types

  types_in : (ks : List ℕ) (i kind : ℕ) → list_all (has_type p) ks ≡ true → slice_get ks i ≡ Some kind → kind < length p.types
  types_in ks i kind h e = fit.type_short p kind (all_at (has_type p) ks i kind h e)

  abbrev is_class_there : Option NamedClass → Bool
  is_class_there x = elim x [ Some c ↦ true | None ↦ false ]

  place_there : (kind : ℕ) (x : Option ℕ) → class_place p kind ≡ x → is_class_there (option_and_then (class_at p) x) ≡ is_some x
  place_there kind None e = refl
  place_there kind (Some c) e = let d = defined p kind c e in ap (λ x. is_class_there (option_map (named_class p) x)) d.is

  defines_is : (kind : ℕ) → kind < length p.types → defines (named p) (type_at p kind) ≡ is_some (class_place p kind)
  defines_is kind lt = ap is_class_there (class_by_number p s kind lt) ∙ place_there kind (class_place p kind) refl

  type_is : (q : MethodName) (n : ℕ) → slice_get p.methods n ≡ Some q → (kind : ℕ) → kind < length p.types → shut.type_clear (named p) (library_of l) (text_at p q.name) (signature_at p q.proto) (type_at p kind) ≡ type_clear p l q kind
  type_is q n e kind lt =
      ap (λ b. b || text_eq (type_at p kind) object_type || shut.walk_clear (length l.classes + 2) (library_of l) (text_at p q.name) (signature_at p q.proto) (type_at p kind)) (defines_is kind lt)
      ∙ ap (λ b. is_some (class_place p kind) || text_eq (type_at p kind) object_type || b) (walk_named l (text_at p q.name) (signature_at p q.proto) (length l.classes + 2) (type_at p kind)
      ∙ ap (λ t. walk_clear (length l.classes + 2) l t (spelled.proto_text (signature_at p q.proto)) (type_at p kind)) (text_same p q.name)
      ∙ ap (λ t. walk_clear (length l.classes + 2) l (string_text p q.name) t (type_at p kind)) (proto_named p q.proto (method_proto p s n q e)))
      ∙ ap (λ t. is_some (class_place p kind) || is_object t || walk_clear (length l.classes + 2) l (string_text p q.name) (proto_text p q.proto) t) (type_same p kind)

  -- ---- classes

  place_is : (c : ℕ) (k : Class) → slice_get p.classes c ≡ Some k → class_place p k.name ≡ Some c
  place_is c k e = own_place p once c k e

  kind_short : (c : ℕ) (k : Class) → slice_get p.classes c ≡ Some k → k.name < length p.types
  kind_short c k e = (class_parts p s c k e).name

  under_is : (c d : ℕ) (k u : Class) → slice_get p.classes c ≡ Some k → slice_get p.classes d ≡ Some u → is_own_under (named p) (named_class p k).name (named_class p u).name ≡ is_under p c d
  under_is c d k u e f = under_by_number p s k.name u.name c d (kind_short c k e) (kind_short d u f) (place_is c k e) (place_is d u f)

  -- names of classes are told apart
  class_is : (c d : ℕ) (k u : Class) → slice_get p.classes c ≡ Some k → slice_get p.classes d ≡ Some u → text_eq (named_class p k).name (named_class p u).name ≡ nat_eq c d
  class_is c d k u e f = type_test p s k.name u.name (kind_short c k e) (kind_short d u f)
      ∙ same_test (nat_eq k.name u.name) (nat_eq c d)
      (λ t. let z : Some c ≡ Some d = sym (place_is c k e) ∙ ap (class_place p) (number_of k.name u.name t) ∙ place_is d u f in let y : c ≡ d = cc in number_test c d y)
      (λ t. let z : Some k ≡ Some u = sym e ∙ ap (slice_get p.classes) (number_of c d t) ∙ f in let y : k ≡ u = cc in number_test k.name u.name (ap (λ x. x.name) y))

  -- ---- calls

  not_some : {X : Type 0} (x : Option X) → not (is_some x) ≡ is_none x
  not_some None = refl
  not_some (Some x) = refl

  callee_is : (q : MethodName) (n : ℕ) → slice_get p.methods n ≡ Some q → (method : ℕ) → method < length p.methods
      → (same_name (method_at p method).name (method_at p method).signature (text_at p q.name) (signature_at p q.proto) && not (defines (named p) (method_at p method).class) && not (text_eq (method_at p method).class object_type))
      ≡ if_entry (is_outside p q) (slice_get p.methods method)
  callee_is q n e method lt = by (slice_get p.methods method) refl
    where
      past : (xs : List MethodName) (i : ℕ) → slice_get xs i ≡ None → i < length xs → true ≡ false
      past [] i f l = absurd (omega (arith, l))
      past (x ∷ xs) zero f l = absurd (cc)
      past (x ∷ xs) (suc i) f l = past xs i f (omega (arith, l))

      by : (x : Option MethodName) → slice_get p.methods method ≡ x
          → (same_name (method_at p method).name (method_at p method).signature (text_at p q.name) (signature_at p q.proto) && not (defines (named p) (method_at p method).class) && not (text_eq (method_at p method).class object_type)) ≡ if_entry (is_outside p q) x
      by None f = absurd (true≢false (past p.methods method f lt))
      by (Some r) f =
          ap (λ k. same_name k.name k.signature (text_at p q.name) (signature_at p q.proto) && not (defines (named p) k.class) && not (text_eq k.class object_type)) (key_is r method f)
          ∙ ap (λ b. b && not (defines (named p) (type_at p r.class)) && not (text_eq (type_at p r.class) object_type)) (names_same r q method n f e)
          ∙ ap (λ b. nat_eq r.name q.name && nat_eq r.proto q.proto && b && not (text_eq (type_at p r.class) object_type)) (ap not (defines_is r.class (method_class p s method r f)) ∙ not_some (class_place p r.class))
          ∙ ap (λ t. nat_eq r.name q.name && nat_eq r.proto q.proto && is_none (class_place p r.class) && not (is_object t)) (type_same p r.class)

  insn_is : (q : MethodName) (n : ℕ) → slice_get p.methods n ≡ Some q → (x : Insn) → ((kind : InvokeKind) (method : ℕ) (args : List ℕ) → x ≡ insn.Invoke kind method args → method < length p.methods)
      → names_outside (named p) (text_at p q.name) (signature_at p q.proto) (form_of p x) ≡ calls_outside p q x
  insn_is q n e (insn.Invoke call.Virtual method args) h = callee_is q n e method (h call.Virtual method args refl)
  insn_is q n e (insn.Invoke call.Interface method args) h = callee_is q n e method (h call.Interface method args refl)
  insn_is q n e (insn.Invoke call.Super method args) h = refl
  insn_is q n e (insn.Invoke call.Direct method args) h = refl
  insn_is q n e (insn.Invoke call.Static method args) h = refl
  insn_is q n e other h = refl

  abbrev named_calls : MethodName → Option NamedBody → Bool
  named_calls q x = elim x [ Some b ↦ list_any (names_outside (named p) (text_at p q.name) (signature_at p q.proto)) b.forms | None ↦ false ]

  abbrev body_calls : MethodName → Option Body → Bool
  body_calls q x = elim x [ Some b ↦ list_any (calls_outside p q) b.insns | None ↦ false ]

  body_is : (q : MethodName) (n : ℕ) → slice_get p.methods n ≡ Some q → (c : ℕ) (k : Class) → slice_get p.classes c ≡ Some k → (i : ℕ) (m : Method) → slice_get k.methods i ≡ Some m → (x : Option Body) → m.body ≡ x
      → named_calls q (option_map (body_of p) x) ≡ body_calls q x
  body_is q n e c k f i m g None h = refl
  body_is q n e c k f i m g (Some b) h = any_named (form_of p) (names_outside (named p) (text_at p q.name) (signature_at p q.proto)) (calls_outside p q) b.insns
      (λ j x at. insn_is q n e x (λ kind method args y. fit.call_short p s c k f i m g b h j kind method args (at ∙ ap (λ z. Some z) y)))

  called_is : (q : MethodName) (n : ℕ) → slice_get p.methods n ≡ Some q → shut.called_outside (named p) (text_at p q.name) (signature_at p q.proto) ≡ called_outside p q
  called_is q n e = any_named (named_class p) (λ k. list_any (λ m. named_calls q m.body) k.methods) (λ k. list_any (λ m. body_calls q m.body) k.methods) p.classes
      (λ c k f. any_named (named_method p) (λ m. named_calls q m.body) (λ m. body_calls q m.body) k.methods (λ i m g. body_is q n e c k f i m g m.body refl))

  -- ---- what a class finds

  found_is : (c : ℕ) (k : Class) → slice_get p.classes c ≡ Some k → (m : Method) (q : MethodName) → slice_get p.methods m.name ≡ Some q → (x : Search)
      → ((at : MethodAt) → x ≡ Search.Finds at → OwnVirtual p q.name q.proto at.class at) → is_found_as (key_of (named_class p k) (named_method p m)) (search_at p x) ≡ is_found_in c x
  found_is c k f m q e Search.Nothing h = refl
  found_is c k f m q e Search.Clash h = refl
  found_is c k f m q e (Search.Finds at) h =
      let own = h at refl in
      let fits : MethodFits p own.class.name own.method = (class_parts p s at.class own.class own.owns.is_class).methods at.place own.method own.owns.is_method in
      let there : IsThere p at = record { class = own.class; is_class = own.owns.is_class; method = own.method; is_method = own.owns.is_method } in
      let names : same_name (named_method p own.method).name (named_method p own.method).signature (named_method p m).name (named_method p m).signature ≡ true =
      ap (λ z. same_name (named_method p own.method).name (named_method p own.method).signature z.name z.signature) (key_is q m.name e)
      ∙ named_same own.method fits.entry q m.name fits.is e ∙ own.named in
      ap (λ z. is_found_as (key_of (named_class p k) (named_method p m)) (finds z)) (found_there_is p at there)
      ∙ three (text_eq (named_class p own.class).name (named_class p k).name) (text_eq (named_method p own.method).name (named_method p m).name) (signature_eq (named_method p own.method).signature (named_method p m).signature) names
      ∙ class_is at.class c own.class k own.owns.is_class f
    where
      three : (a b c : Bool) → (b && c) ≡ true → (a && b && c) ≡ a
      three true b c t = t
      three false b c t = refl

  finds_is : (c : ℕ) (k : Class) → slice_get p.classes c ≡ Some k → (m : Method) (q : MethodName) → slice_get p.methods m.name ≡ Some q → (d : ℕ) (u : Class) → slice_get p.classes d ≡ Some u
      → shut.finds_it (named p) (key_of (named_class p k) (named_method p m)) (named_class p u) ≡ finds_it p c q d
  finds_is c k f m q e d u g =
      ap (is_found_as (key_of (named_class p k) (named_method p m))) (ap (λ z. finds_at (named p) (type_at p u.name) (record { class = type_at p k.name; name = z.name; signature = z.signature })) (key_is q m.name e)
      ∙ finds_at_by_number p s q.name q.proto (method_name p s m.name q e) (method_proto p s m.name q e) once u.name d (type_at p k.name) (kind_short d u g) (place_is d u g))
      ∙ found_is c k f m q e (look.finds_at p d q.name q.proto) (λ at. own_found p d q.name q.proto at)

  -- ---- kept, and clear

  keeps_is : (m : Method) (q : MethodName) → slice_get p.methods m.name ≡ Some q → (d : ℕ) (u : Class) → slice_get p.classes d ≡ Some u → shut.keeps_name O (named_method p m) (named_class p u) ≡ keeps_name p o q u
  keeps_is m q e d u f =
      any_named (named_method p) (λ x. same_name x.name x.signature (named_method p m).name (named_method p m).signature && is_virtual_method x && O.methods (key_of (named_class p u) x))
      (λ x. names_method q.name q.proto (slice_get p.methods x.name) && not (is_direct p x) && is_kept o x.name) u.methods (λ i x g.
      let fits : MethodFits p u.name x = (class_parts p s d u f).methods i x g in
      ap (λ b. b && is_virtual_method (named_method p x) && O.methods (key_of (named_class p u) (named_method p x)))
      (ap (λ z. same_name (named_method p x).name (named_method p x).signature z.name z.signature) (key_is q m.name e) ∙ named_same x fits.entry q m.name fits.is e)
      ∙ ap (λ b. names_method q.name q.proto (slice_get p.methods x.name) && b && O.methods (key_of (named_class p u) (named_method p x))) (virtual_test p x)
      ∙ ap (λ b. names_method q.name q.proto (slice_get p.methods x.name) && not (is_direct p x) && b) (among d i u x f g o.methods))

  keeper_is : (m : Method) (q : MethodName) → slice_get p.methods m.name ≡ Some q → (d : ℕ) (u : Class) → slice_get p.classes d ≡ Some u → shut.keeper_over (named p) O (named_method p m) (named_class p u).name ≡ keeper_over p o q d
  keeper_is m q e d u f =
      some_named p (λ v. is_own_under (named p) (named_class p u).name v.name && shut.keeps_name O (named_method p m) v) (λ x v. is_under p d x && keeps_name p o q v) 0 p.classes (λ j x v g y.
      let h : slice_get p.classes x ≡ Some v = ap (slice_get p.classes) (y ∙ (let z : 0 + j ≡ j = omega arith in z)) ∙ g in
      ap (λ b. b && shut.keeps_name O (named_method p m) (named_class p v)) (under_is d x u v f h) ∙ ap (λ b. is_under p d x && b) (keeps_is m q e x v h))

  types_are : (m : Method) (q : MethodName) → slice_get p.methods m.name ≡ Some q → (d : ℕ) (u : Class) → slice_get p.classes d ≡ Some u
      → shut.types_clear (named p) (library_of l) (named_method p m).name (named_method p m).signature (named_class p u).name ≡ types_clear p l q d
  types_are m q e d u f =
      ap (λ z. shut.types_clear (named p) (library_of l) z.name z.signature (named_class p u).name) (key_is q m.name e)
      ∙ each_named p (λ v. not (is_own_under (named p) (named_class p u).name v.name) || list_all (shut.type_clear (named p) (library_of l) (text_at p q.name) (signature_at p q.proto)) (v.superclass ∷ v.interfaces))
      (λ x v. not (is_under p d x) || list_all (type_clear p l q) (v.superclass ∷ v.interfaces)) 0 p.classes (λ j x v g y.
      let h : slice_get p.classes x ≡ Some v = ap (slice_get p.classes) (y ∙ (let z : 0 + j ≡ j = omega arith in z)) ∙ g in
      let parts : ClassFits p v = class_parts p s x v h in
      ap (λ b. not b || list_all (shut.type_clear (named p) (library_of l) (text_at p q.name) (signature_at p q.proto)) (type_at p v.superclass ∷ map (type_at p) v.interfaces)) (under_is d x u v f h)
      ∙ ap (λ b. not (is_under p d x) || b) (ap (λ b. b && list_all (shut.type_clear (named p) (library_of l) (text_at p q.name) (signature_at p q.proto)) (map (type_at p) v.interfaces)) (type_is q m.name e v.superclass parts.superclass)
      ∙ ap (λ b. type_clear p l q v.superclass && b) (all_named (type_at p) (shut.type_clear (named p) (library_of l) (text_at p q.name) (signature_at p q.proto)) (type_clear p l q) v.interfaces
      (λ i kind w. type_is q m.name e kind (types_in v.interfaces i kind parts.interfaces w)))))

  -- ---- what a method says alone

  loose_is : (c i : ℕ) (k : Class) (m : Method) → slice_get p.classes c ≡ Some k → slice_get k.methods i ≡ Some m → (q : MethodName) → slice_get p.methods m.name ≡ Some q
      → (is_virtual_method (named_method p m) && not (O.methods (key_of (named_class p k) (named_method p m))) && not (is_common (named_method p m).name (named_method p m).signature)
      && not (find.is_037 (named p).version && remainder.is_interface (named_class p k).flags) && not (shut.called_outside (named p) (named_method p m).name (named_method p m).signature)) ≡ is_loose p o q k m
  loose_is c i k m f g q e =
      ap (λ z. is_virtual_method (named_method p m) && not (O.methods (key_of (named_class p k) (named_method p m))) && not (is_common z.name z.signature)
      && not (find.is_037 p.version && remainder.is_interface k.flags.0) && not (shut.called_outside (named p) z.name z.signature)) (key_is q m.name e)
      ∙ ap (λ b. b && not (O.methods (key_of (named_class p k) (named_method p m))) && not (is_common (text_at p q.name) (signature_at p q.proto))
      && not (find.is_037 p.version && remainder.is_interface k.flags.0) && not (shut.called_outside (named p) (text_at p q.name) (signature_at p q.proto))) (virtual_test p m)
      ∙ ap (λ b. not (is_direct p m) && not b && not (is_common (text_at p q.name) (signature_at p q.proto))
      && not (find.is_037 p.version && remainder.is_interface k.flags.0) && not (shut.called_outside (named p) (text_at p q.name) (signature_at p q.proto))) (among c i k m f g o.methods)
      ∙ ap (λ b. not (is_direct p m) && not (is_kept o m.name) && not b
      && not (find.is_037 p.version && remainder.is_interface k.flags.0) && not (shut.called_outside (named p) (text_at p q.name) (signature_at p q.proto))) (common_test p q.name q.proto)
      ∙ ap (λ b. not (is_direct p m) && not (is_kept o m.name) && not (number.is_common p q.name q.proto)
      && not (b && remainder.is_interface k.flags.0) && not (shut.called_outside (named p) (text_at p q.name) (signature_at p q.proto))) (version_test p.version)
      ∙ ap (λ b. not (is_direct p m) && not (is_kept o m.name) && not (number.is_common p q.name q.proto)
      && not (look.is_037 p.version && b) && not (shut.called_outside (named p) (text_at p q.name) (signature_at p q.proto))) (sym (interface_flag k.flags))
      ∙ ap (λ b. not (is_direct p m) && not (is_kept o m.name) && not (number.is_common p q.name q.proto) && not (look.is_037 p.version && has_flag k.flags 512) && not b) (called_is q m.name e)

  other_is : (c : ℕ) (k : Class) → slice_get p.classes c ≡ Some k → (m : Method) (q : MethodName) → slice_get p.methods m.name ≡ Some q → (x i : ℕ) (u : Class) (y : Method) → slice_get p.classes x ≡ Some u → slice_get u.methods i ≡ Some y
      → shut.is_other (named_class p k).name (named_method p m) (named_class p u) (named_method p y) ≡ is_other p c q x y
  other_is c k f m q e x i u y g h =
      let fits : MethodFits p u.name y = (class_parts p s x u g).methods i y h in
      ap (λ b. b && is_virtual_method (named_method p y) && is_some (option_map (body_of p) y.body) && not (text_eq (named_class p u).name (named_class p k).name))
      (ap (λ z. same_name (named_method p y).name (named_method p y).signature z.name z.signature) (key_is q m.name e) ∙ named_same y fits.entry q m.name fits.is e)
      ∙ ap (λ b. names_method q.name q.proto (slice_get p.methods y.name) && b && is_some (option_map (body_of p) y.body) && not (text_eq (named_class p u).name (named_class p k).name)) (virtual_test p y)
      ∙ ap (λ b. names_method q.name q.proto (slice_get p.methods y.name) && not (is_direct p y) && b && not (text_eq (named_class p u).name (named_class p k).name)) (coded_test p y.body)
      ∙ ap (λ b. names_method q.name q.proto (slice_get p.methods y.name) && not (is_direct p y) && is_some y.body && not b) (class_is x c u k g f)

  -- ---- whether a method is shut

  abbrev member : ℕ → Class → Method → Class → NamedMethod → Bool
  member n k m u r = not (shut.is_other (named_class p k).name (named_method p m) (named_class p u) r) || O.methods (key_of (named_class p u) r) || shut.is_shut n (named p) O (library_of l) (named_class p u) r

  abbrev above : ℕ → Class → Method → Class → NamedClass → Bool
  above n k m v u = not (is_own_under (named p) (named_class p v).name u.name) || list_all (λ r. not (shut.is_other (named_class p k).name (named_method p m) u r) || O.methods (key_of u r) || shut.is_shut n (named p) O (library_of l) u r) u.methods

  abbrev clear : Method → Class → Bool
  clear m v = not (shut.keeper_over (named p) O (named_method p m) (named_class p v).name) && shut.types_clear (named p) (library_of l) (named_method p m).name (named_method p m).signature (named_class p v).name

  abbrev finder : ℕ → Class → Method → NamedClass → Bool
  finder n k m v = not (shut.finds_it (named p) (key_of (named_class p k) (named_method p m)) v) || (not (shut.keeper_over (named p) O (named_method p m) v.name)
      && shut.types_clear (named p) (library_of l) (named_method p m).name (named_method p m).signature v.name
      && list_all (λ u. not (is_own_under (named p) v.name u.name) || list_all (λ r. not (shut.is_other (named_class p k).name (named_method p m) u r) || O.methods (key_of u r) || shut.is_shut n (named p) O (library_of l) u r) u.methods) (map (named_class p) p.classes))

  abbrev upper : ℕ → ℕ → MethodName → ℕ → ℕ → Class → Bool
  upper n c q d x u = not (is_under p d x) || list_all (λ r. not (is_other p c q x r) || is_kept o r.name || is_shut n p o l x u r) u.methods

  pub shut_is : (n c i : ℕ) (k : Class) (m : Method) → slice_get p.classes c ≡ Some k → slice_get k.methods i ≡ Some m → shut.is_shut n (named p) O (library_of l) (named_class p k) (named_method p m) ≡ is_shut n p o l c k m
  shut_is zero c i k m f g = refl
  shut_is (suc n) c i k m f g =
      let fits : MethodFits p k.name m = (class_parts p s c k f).methods i m g in
      let q = fits.entry in
      ap (λ b. b && list_all (finder n k m) (map (named_class p) p.classes)) (loose_is c i k m f g q fits.is)
      ∙ ap (λ b. is_loose p o q k m && b) (each_named p (finder n k m) (λ d v. not (finds_it p c q d) || (is_clear_at p o l q d && each_class (upper n c q d) 0 p.classes)) 0 p.classes (λ j d v h y.
      let at : slice_get p.classes d ≡ Some v = ap (slice_get p.classes) (y ∙ (let z : 0 + j ≡ j = omega arith in z)) ∙ h in
      ap (λ b. not b || (clear m v && list_all (above n k m v) (map (named_class p) p.classes))) (finds_is c k f m q fits.is d v at)
      ∙ ap (λ b. not (finds_it p c q d) || b) (ap (λ b. b && list_all (above n k m v) (map (named_class p) p.classes)) (ap (λ b. not b && shut.types_clear (named p) (library_of l) (named_method p m).name (named_method p m).signature (named_class p v).name) (keeper_is m q fits.is d v at)
      ∙ ap (λ b. not (keeper_over p o q d) && b) (types_are m q fits.is d v at))
      ∙ ap (λ b. is_clear_at p o l q d && b) (each_named p (above n k m v) (upper n c q d) 0 p.classes (λ j2 x u w z.
      let there : slice_get p.classes x ≡ Some u = ap (slice_get p.classes) (z ∙ (let z2 : 0 + j2 ≡ j2 = omega arith in z2)) ∙ w in
      ap (λ b. not b || list_all (member n k m u) (map (named_method p) u.methods)) (under_is d x v u at there)
      ∙ ap (λ b. not (is_under p d x) || b) (all_named (named_method p) (member n k m u) (λ r. not (is_other p c q x r) || is_kept o r.name || is_shut n p o l x u r) u.methods (λ i2 r h2.
      ap (λ b. not b || O.methods (key_of (named_class p u) (named_method p r)) || shut.is_shut n (named p) O (library_of l) (named_class p u) (named_method p r)) (other_is c k f m q fits.is x i2 u r there h2)
      ∙ ap (λ b. not (is_other p c q x r) || b || shut.is_shut n (named p) O (library_of l) (named_class p u) (named_method p r)) (among x i2 u r there h2 o.methods)
      ∙ ap (λ b. not (is_other p c q x r) || is_kept o r.name || b) (shut_is n x i2 u r there h2))))))))
      ∙ sym (ap (if_entry (λ q. is_loose p o q k m && each_class (λ d v. not (finds_it p c q d) || (is_clear_at p o l q d && each_class (upper n c q d) 0 p.classes)) 0 p.classes)) fits.is)
