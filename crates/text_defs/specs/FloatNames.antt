-- The names of float operations, and how wide their operands and results are (Dalvik bytecode, "Summary of bytecode set").
use Rattle.std.specs.Prelude.{ℕ, Bool, true, false, List, Option, Some, None, codes, if◌then◌else◌}
use Rattle.dalvik_defs.specs.Names.{text_eq}
use Rattle.dalvik_defs.specs.declared.tables.FloatOp.{FloatOp}
use Rattle.dalvik_defs.specs.declared.tables.FloatOp.TheVariants.{CmplFloat, CmpgFloat, CmplDouble, CmpgDouble, NegFloat, NegDouble, IntToFloat, IntToDouble, LongToFloat, LongToDouble, FloatToInt, FloatToLong, FloatToDouble, DoubleToInt, DoubleToLong, DoubleToFloat, AddFloat, SubFloat, MulFloat, DivFloat, RemFloat, AddDouble, SubDouble, MulDouble, DivDouble, RemDouble}

abbrev pub float_name : FloatOp → List ℕ
float_name CmplFloat = codes "cmpl-float"
float_name CmpgFloat = codes "cmpg-float"
float_name CmplDouble = codes "cmpl-double"
float_name CmpgDouble = codes "cmpg-double"
float_name NegFloat = codes "neg-float"
float_name NegDouble = codes "neg-double"
float_name IntToFloat = codes "int-to-float"
float_name IntToDouble = codes "int-to-double"
float_name LongToFloat = codes "long-to-float"
float_name LongToDouble = codes "long-to-double"
float_name FloatToInt = codes "float-to-int"
float_name FloatToLong = codes "float-to-long"
float_name FloatToDouble = codes "float-to-double"
float_name DoubleToInt = codes "double-to-int"
float_name DoubleToLong = codes "double-to-long"
float_name DoubleToFloat = codes "double-to-float"
float_name AddFloat = codes "add-float"
float_name SubFloat = codes "sub-float"
float_name MulFloat = codes "mul-float"
float_name DivFloat = codes "div-float"
float_name RemFloat = codes "rem-float"
float_name AddDouble = codes "add-double"
float_name SubDouble = codes "sub-double"
float_name MulDouble = codes "mul-double"
float_name DivDouble = codes "div-double"
float_name RemDouble = codes "rem-double"

-- the operation if the word is its name, else the other
abbrev pub named : List ℕ → FloatOp → Option FloatOp → Option FloatOp
named word op other = if text_eq word (float_name op) then Some op else other

abbrev pub compare_named : List ℕ → Option FloatOp
compare_named word = named word CmplFloat (named word CmpgFloat (named word CmplDouble (named word CmpgDouble
    (named word NegFloat (named word NegDouble None)))))

abbrev pub convert_named : List ℕ → Option FloatOp
convert_named word = named word IntToFloat (named word IntToDouble (named word LongToFloat (named word LongToDouble
    (named word FloatToInt (named word FloatToLong (named word FloatToDouble
    (named word DoubleToInt (named word DoubleToLong (named word DoubleToFloat None)))))))))

abbrev pub float_arithmetic : List ℕ → Option FloatOp
float_arithmetic word = named word AddFloat (named word SubFloat (named word MulFloat (named word DivFloat (named word RemFloat None))))

abbrev pub double_arithmetic : List ℕ → Option FloatOp
double_arithmetic word = named word AddDouble (named word SubDouble (named word MulDouble (named word DivDouble (named word RemDouble None))))

-- the first if there is one, else the other
abbrev pub first_named : Option FloatOp → Option FloatOp → Option FloatOp
first_named (Some op) other = Some op
first_named None other = other

abbrev pub float_named : List ℕ → Option FloatOp
float_named word = first_named (compare_named word) (first_named (convert_named word)
    (first_named (float_arithmetic word) (double_arithmetic word)))

-- whether the operands are wides
abbrev pub takes_wides : FloatOp → Bool
takes_wides CmplDouble = true
takes_wides CmpgDouble = true
takes_wides NegDouble = true
takes_wides LongToFloat = true
takes_wides LongToDouble = true
takes_wides DoubleToInt = true
takes_wides DoubleToLong = true
takes_wides DoubleToFloat = true
takes_wides AddDouble = true
takes_wides SubDouble = true
takes_wides MulDouble = true
takes_wides DivDouble = true
takes_wides RemDouble = true
takes_wides op = false

-- whether the result is a wide
abbrev pub gives_wide : FloatOp → Bool
gives_wide NegDouble = true
gives_wide IntToDouble = true
gives_wide LongToDouble = true
gives_wide FloatToLong = true
gives_wide FloatToDouble = true
gives_wide DoubleToLong = true
gives_wide AddDouble = true
gives_wide SubDouble = true
gives_wide MulDouble = true
gives_wide DivDouble = true
gives_wide RemDouble = true
gives_wide op = false

-- whether there is one operand, not two
abbrev pub takes_one : FloatOp → Bool
takes_one NegFloat = true
takes_one NegDouble = true
takes_one IntToFloat = true
takes_one IntToDouble = true
takes_one LongToFloat = true
takes_one LongToDouble = true
takes_one FloatToInt = true
takes_one FloatToLong = true
takes_one FloatToDouble = true
takes_one DoubleToInt = true
takes_one DoubleToLong = true
takes_one DoubleToFloat = true
takes_one op = false
