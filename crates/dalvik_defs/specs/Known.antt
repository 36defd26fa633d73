-- The types of the framework that the machine itself knows (this project's profile).
use Rattle.std.specs.Prelude.{false, List, [], ◌∷◌, codes}
use Rattle.dalvik_defs.specs.Names.{Text, object_type, throwable_type, error_type}
use Rattle.dalvik_defs.specs.declared.tables.FrameworkType.{FrameworkType}

abbrev pub class_row : Text → Text → FrameworkType
class_row name superclass = record { name = name; interface = false; superclass = superclass; interfaces = [] }

abbrev pub exception_type : Text
exception_type = codes "Ljava/lang/Exception;"

abbrev pub runtime_exception : Text
runtime_exception = codes "Ljava/lang/RuntimeException;"

abbrev pub arithmetic_exception : Text
arithmetic_exception = codes "Ljava/lang/ArithmeticException;"

abbrev pub null_pointer : Text
null_pointer = codes "Ljava/lang/NullPointerException;"

abbrev pub bad_cast : Text
bad_cast = codes "Ljava/lang/ClassCastException;"

abbrev pub negative_size : Text
negative_size = codes "Ljava/lang/NegativeArraySizeException;"

abbrev pub bad_store : Text
bad_store = codes "Ljava/lang/ArrayStoreException;"

abbrev pub index_out_of_bounds : Text
index_out_of_bounds = codes "Ljava/lang/IndexOutOfBoundsException;"

abbrev pub out_of_bounds : Text
out_of_bounds = codes "Ljava/lang/ArrayIndexOutOfBoundsException;"

abbrev pub bad_monitor : Text
bad_monitor = codes "Ljava/lang/IllegalMonitorStateException;"

abbrev pub linkage_error : Text
linkage_error = codes "Ljava/lang/LinkageError;"

abbrev pub initialiser_error : Text
initialiser_error = codes "Ljava/lang/ExceptionInInitializerError;"

abbrev pub no_class : Text
no_class = codes "Ljava/lang/NoClassDefFoundError;"

abbrev pub class_change : Text
class_change = codes "Ljava/lang/IncompatibleClassChangeError;"

abbrev pub abstract_method : Text
abstract_method = codes "Ljava/lang/AbstractMethodError;"

abbrev pub known_rows : List FrameworkType
known_rows =
    class_row throwable_type object_type
    ∷ class_row exception_type throwable_type
    ∷ class_row error_type throwable_type
    ∷ class_row runtime_exception exception_type
    ∷ class_row arithmetic_exception runtime_exception
    ∷ class_row null_pointer runtime_exception
    ∷ class_row bad_cast runtime_exception
    ∷ class_row negative_size runtime_exception
    ∷ class_row bad_store runtime_exception
    ∷ class_row index_out_of_bounds runtime_exception
    ∷ class_row bad_monitor runtime_exception
    ∷ class_row out_of_bounds index_out_of_bounds
    ∷ class_row linkage_error error_type
    ∷ class_row initialiser_error linkage_error
    ∷ class_row no_class linkage_error
    ∷ class_row class_change linkage_error
    ∷ class_row abstract_method class_change
    ∷ []
