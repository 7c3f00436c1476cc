-- The keys of a setup, by name, and which keys each of its tables may hold.
use Rattle.std.specs.Prelude.{ℕ, ◌==◌, List, [], ◌∷◌, Bool, if◌then◌else◌, codes}
use Rattle.std.specs.List.{after_first, list_any}
use Rattle.std.specs.Str.{bytes_eq}
use Rattle.setup_keys.specs.declared.key.KeyName.{KeyName}
use Rattle.setup_keys.specs.declared.key.KeyName.TheVariants as keys

-- the key as it is printed
abbrev pub key_text : KeyName → List ℕ
key_text keys.Setup = codes "setup"
key_text keys.Grid = codes "grid"
key_text keys.GridOrigin = codes "grid.origin"
key_text keys.GridPitch = codes "grid.pitch"
key_text keys.GridStep = codes "grid.step"
key_text keys.GridCounts = codes "grid.counts"
key_text keys.Check = codes "check"
key_text keys.CheckTolerance = codes "check.tolerance"
key_text keys.CheckClearance = codes "check.clearance"
key_text keys.CheckSlabs = codes "check.slabs"
key_text keys.CheckDepth = codes "check.depth"
key_text keys.Tool = codes "tool"
key_text keys.ToolDiameter = codes "tool.diameter"
key_text keys.ToolRadius = codes "tool.radius"
key_text keys.ToolHeight = codes "tool.height"
key_text keys.Stock = codes "stock"
key_text keys.StockBox = codes "stock.box"
key_text keys.StockPlanes = codes "stock.planes"
key_text keys.Part = codes "part"
key_text keys.PartBox = codes "part.box"
key_text keys.PartPlanes = codes "part.planes"
key_text keys.Fixture = codes "fixture"
key_text keys.FixtureBox = codes "fixture.box"
key_text keys.FixturePlanes = codes "fixture.planes"
key_text keys.Turn = codes "turn"
key_text keys.TurnAxes = codes "turn.axes"
key_text keys.TurnShift = codes "turn.shift"

-- what comes after the point of a text, or the whole text where it has none
abbrev pub behind_point : List ℕ → List ℕ
behind_point text = if list_any (λ b. b == 46) text then after_first (λ b. b == 46) text else text

-- the key as its table holds it: `origin` for `grid.origin`
abbrev pub name_of : KeyName → List ℕ
name_of key = behind_point (key_text key)

-- the keys that a table may hold, and each body of a list of bodies; `Setup` is the top level
abbrev pub keys_in : KeyName → List KeyName
keys_in keys.Setup = keys.Grid ∷ keys.Check ∷ keys.Tool ∷ keys.Stock ∷ keys.Part ∷ keys.Fixture ∷ keys.Turn ∷ []
keys_in keys.Grid = keys.GridOrigin ∷ keys.GridPitch ∷ keys.GridStep ∷ keys.GridCounts ∷ []
keys_in keys.Check = keys.CheckTolerance ∷ keys.CheckClearance ∷ keys.CheckSlabs ∷ keys.CheckDepth ∷ []
keys_in keys.Tool = keys.ToolDiameter ∷ keys.ToolRadius ∷ keys.ToolHeight ∷ []
keys_in keys.Stock = keys.StockBox ∷ keys.StockPlanes ∷ []
keys_in keys.Part = keys.PartBox ∷ keys.PartPlanes ∷ []
keys_in keys.Fixture = keys.FixtureBox ∷ keys.FixturePlanes ∷ []
keys_in keys.Turn = keys.TurnAxes ∷ keys.TurnShift ∷ []
keys_in _ = []

-- the tables, in the order in which they are searched for keys that aren't known
abbrev pub setup_tables : List KeyName
setup_tables = keys.Setup ∷ keys.Grid ∷ keys.Check ∷ keys.Tool ∷ keys.Stock ∷ keys.Part ∷ keys.Fixture ∷ keys.Turn ∷ []

-- the name is that of a key that the table may hold
abbrev pub is_known : KeyName → List ℕ → Bool
is_known table name = list_any (λ key. bytes_eq name (name_of key)) (keys_in table)
