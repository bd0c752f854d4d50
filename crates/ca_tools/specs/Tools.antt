-- The words that name the tools.
use Rattle.std.specs.Prelude.{List, ℕ, codes}
use Rattle.ca_tools.specs.declared.tool_line.ToolVerb.{ToolVerb}
use Rattle.ca_tools.specs.declared.tool_line.ToolVerb.TheVariants.{Get, Put, Monitor}

-- The word that names a tool.
abbrev pub name_of : ToolVerb → List ℕ
name_of Get = codes "get"
name_of Put = codes "put"
name_of Monitor = codes "monitor"
