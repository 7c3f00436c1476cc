-- The text of a refused input: which input, where, and why.
use Rattle.std.specs.Prelude.{ℕ, List, [], ◌++◌, codes, decimal}
use Rattle.vf_text.specs.Pages.{line}
use Rattle.cl_lines.specs.declared.fault.ClWhy.{ClWhy}
use Rattle.cl_lines.specs.declared.fault.ClWhy.TheVariants.{LineLong, DanglingDollar, BadByte, Unsupported, ParamCount, ParamWord}
use Rattle.cl_lines.specs.declared.fault.ClWhy.TheVariants.{NumberSyntax, NumberRange, CutterShape}
use Rattle.cl_lines.specs.declared.fault.ClWhy.TheVariants.{AxisZero, NoPosition, AxisFlip, TooManyMoves}
use Rattle.cl_lines.specs.Words.{word_name}
use Rattle.input_faults.specs.declared.fault.Fault.{Fault}
use Rattle.input_faults.specs.declared.fault.Fault.TheVariants.{TooLong, Cl, Setup, CutterHeight, Script, MoveRange}
use Rattle.input_faults.specs.declared.fault.Fault.TheVariants.{Cert, Stock, StockOther, TurnOutside}
use Rattle.input_faults.specs.declared.fault.Input.{Input}
use Rattle.input_faults.specs.declared.fault.Input.TheVariants as inputs
use Rattle.report_text.specs.CertFaults.{cert_fault_text}
use Rattle.report_text.specs.Places.{place_text}
use Rattle.report_text.specs.ScriptFaults.{depths_text, script_fault_text}
use Rattle.report_text.specs.SetupFaults.{setup_fault_text}
use Rattle.report_text.specs.StockFaults.{stock_fault_text}

abbrev pub input_name : Input → List ℕ
input_name inputs.Cl = codes "cl"
input_name inputs.Setup = codes "setup"
input_name inputs.Script = codes "script"
input_name inputs.Cert = codes "cert"
input_name inputs.Stock = codes "stock"

abbrev pub why_name : ClWhy → List ℕ
why_name LineLong = codes "LineLong"
why_name DanglingDollar = codes "DanglingDollar"
why_name BadByte = codes "BadByte"
why_name (Unsupported _) = codes "Unsupported"
why_name ParamCount = codes "ParamCount"
why_name ParamWord = codes "ParamWord"
why_name NumberSyntax = codes "NumberSyntax"
why_name NumberRange = codes "NumberRange"
why_name CutterShape = codes "CutterShape"
why_name AxisZero = codes "AxisZero"
why_name NoPosition = codes "NoPosition"
why_name AxisFlip = codes "AxisFlip"
why_name TooManyMoves = codes "TooManyMoves"

-- the word that is refused, after a space
abbrev pub refused_word : ClWhy → List ℕ
refused_word (Unsupported word) = codes " " ++ word_name word
refused_word _ = []

abbrev pub fault_text : Fault → List ℕ
fault_text (TooLong input) = input_name input ++ codes ": TooLong"
fault_text (CutterHeight at) = codes "cl line " ++ decimal at ++ codes ": CutterHeight"
fault_text (Cl fault) = codes "cl line " ++ decimal fault.line ++ codes ": " ++ why_name fault.why ++ refused_word fault.why
fault_text (Setup fault) = setup_fault_text fault
fault_text (Script fault) = script_fault_text fault
fault_text (MoveRange asked moves) = codes "cl: MoveRange" ++ depths_text asked moves
fault_text (Cert fault) = cert_fault_text fault
fault_text (Stock fault) = stock_fault_text fault
fault_text StockOther = codes "stock: StockOther"
fault_text (TurnOutside ray l) = codes "stock: TurnOutside" ++ place_text ray l

-- the one line of a refusal
abbrev pub refusal_of : Fault → List ℕ
refusal_of fault = line (codes "refused: " ++ fault_text fault)
