-- Members by their lines.
use Rattle.std.proofs.Common.{◌≡◌, ℕ, zero, suc, ◌<◌, Bool, true, false, true≢false, List, [], ◌∷◌, length, get_or, ap, ◌∙◌, arith}
use Rattle.std.specs.Prelude.{◌&&◌}
use Rattle.std.specs.List.{list_all}
use Rattle.class_defs.proofs.WellFormed.{and_left, and_right}
use Rattle.std.proofs.Common.{subst}
use Rattle.std.specs.Prelude.{Result, IfOk}
use Rattle.std.proofs.lemmas.Result.{IfOk-weaker}
use Rattle.dalvik_defs.specs.Names.{Text}
use Rattle.dalvik_defs.specs.declared.names.Signature.{Signature}
use Rattle.rule_text.specs.declared.pattern.NamePattern.{NamePattern}
use Rattle.rule_text.specs.declared.rules.TypePattern.{TypePattern}
use Rattle.rule_text.specs.declared.rules.Arguments.{Arguments as ReadArguments}
use Rattle.rule_text.specs.declared.rules.What.{What as ReadWhat}
use Rattle.rule_text.specs.declared.rules.What.TheVariants as what
use Rattle.rule_text.specs.Tokens.{Word}
use Rattle.rule_text.specs.Rules.{Arguments, What}
use Rattle.rule_text.specs.Related.{AreArgumentsOf, IsPatternOf, IsTypeOf, IsWhatOf, OfField, OfMethod}
use Rattle.rule_defs.specs.Patterns.{arguments_fit, member_name_fits, type_fits}
use Rattle.rule_defs.specs.Members.{names_field, names_method}

pub read_all : {A : Type 0} (t : A → Bool) (xs : List A) (i : ℕ) (x : A) → list_all t xs ≡ true → i < length xs → x ≡ get_or xs i x → t x ≡ true
read_all t [] i x h l e = absurd (omega arith)
read_all t (y ∷ ys) zero x h l e = ap t e ∙ and_left (t y) (list_all t ys) h
read_all t (y ∷ ys) (suc i) x h l e = read_all t ys i x (and_right (t y) (list_all t ys) h) (omega arith) e

pub three : (a b c d : Bool) → true ≡ (a && b) → d ≡ c → d ≡ ((a && b) && c)
three true true c d e f = f
three true false c d e f = absurd (true≢false e)
three false b c d e f = absurd (true≢false e)

-- ---- what a line names

same_text : {E : Type 0} (r : Result Bool E) (test : Text → Bool) (u v : Text) → u ≡ v → IfOk r (λ b. b ≡ test u) → IfOk r (λ b. b ≡ test v)
same_text r test u v e h = IfOk-weaker r (λ b. b ≡ test u) (λ b. b ≡ test v) (λ b f. f ∙ ap test e) h

method_at_what : {E : Type 0} (t : TypePattern) (p : NamePattern) (read : ReadArguments) (w : What) (r : Result Bool E) (u v : Text) (s : Signature) → IsWhatOf (what.Method t p read) w → u ≡ v
    → ((n k : Word) (a : Arguments) → IsPatternOf p n → IsTypeOf t k → AreArgumentsOf read a
    → IfOk r (λ b. b ≡ ((member_name_fits n u && type_fits k s.result) && arguments_fit a s.parameters))) → IfOk r (λ b. b ≡ names_method w v s)
method_at_what _ _ _ _ r u v s (OfMethod t p read result name a kind is args) e h = same_text r (λ x. (member_name_fits name x && type_fits result s.result) && arguments_fit a s.parameters) u v e (h name result a is kind args)

pub method_what : {E : Type 0} (t : TypePattern) (p : NamePattern) (read : ReadArguments) (x : ReadWhat) (w : What) (r : Result Bool E) (u v : Text) (s : Signature) → x ≡ what.Method t p read → IsWhatOf x w → u ≡ v
    → ((n k : Word) (a : Arguments) → IsPatternOf p n → IsTypeOf t k → AreArgumentsOf read a
    → IfOk r (λ b. b ≡ ((member_name_fits n u && type_fits k s.result) && arguments_fit a s.parameters))) → IfOk r (λ b. b ≡ names_method w v s)
method_what t p read x w r u v s e is = method_at_what t p read w r u v s (subst (λ y. IsWhatOf y w) e is)

field_at_what : {E : Type 0} (t : TypePattern) (p : NamePattern) (w : What) (r : Result Bool E) (u d : Text) → IsWhatOf (what.Field t p) w
    → ((n k : Word) → IsPatternOf p n → IsTypeOf t k → IfOk r (λ b. b ≡ (member_name_fits n u && type_fits k d))) → IfOk r (λ b. b ≡ names_field w u d)
field_at_what _ _ _ r u d (OfField t p kind name of is) h = h name kind is of

pub field_what : {E : Type 0} (t : TypePattern) (p : NamePattern) (x : ReadWhat) (w : What) (r : Result Bool E) (u d : Text) → x ≡ what.Field t p → IsWhatOf x w
    → ((n k : Word) → IsPatternOf p n → IsTypeOf t k → IfOk r (λ b. b ≡ (member_name_fits n u && type_fits k d))) → IfOk r (λ b. b ≡ names_field w u d)
field_what t p x w r u d e is = field_at_what t p w r u d (subst (λ y. IsWhatOf y w) e is)

pub both_texts : {E : Type 0} (n k : Word) (r : Result Bool E) (u v d x : Text) → u ≡ v → d ≡ x → IfOk r (λ b. b ≡ (member_name_fits n u && type_fits k d)) → IfOk r (λ b. b ≡ (member_name_fits n v && type_fits k x))
both_texts n k r u v d x e f h = same_text r (λ y. member_name_fits n v && type_fits k y) d x f (same_text r (λ y. member_name_fits n y && type_fits k d) u v e h)
