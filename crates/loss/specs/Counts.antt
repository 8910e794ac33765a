-- The counts of accepted puts, one for each letter.
use Rattle.std.specs.Prelude.{ℕ, ◌+◌, min}
use Rattle.symbol.specs.declared.Mark.TheVariants.{BbScS, BbScR}
use Rattle.symbol.specs.declared.SymbolKind.{SymbolKind}
use Rattle.symbol.specs.declared.SymbolKind.TheVariants.{Frame, RRdy, Mark}
use Rattle.loss.specs.declared.counts.PutCounts.{PutCounts}

abbrev pub nothing_counted : PutCounts
nothing_counted = record { frames = 0; rrdys = 0; bbscs = 0; bbscr = 0 }

abbrev pub count_of : PutCounts → SymbolKind → ℕ
count_of c Frame = c.frames
count_of c RRdy = c.rrdys
count_of c (Mark BbScS) = c.bbscs
count_of c (Mark BbScR) = c.bbscr

-- the number of the next put of the kind: one more than were counted, up to the largest count
abbrev pub next : PutCounts → SymbolKind → ℕ
next c k = min (count_of c k + 1) 4294967295

-- one more put of the kind
abbrev pub counted : PutCounts → SymbolKind → PutCounts
counted c Frame = record { frames = next c Frame; rrdys = c.rrdys; bbscs = c.bbscs; bbscr = c.bbscr }
counted c RRdy = record { frames = c.frames; rrdys = next c RRdy; bbscs = c.bbscs; bbscr = c.bbscr }
counted c (Mark BbScS) = record { frames = c.frames; rrdys = c.rrdys; bbscs = next c (Mark BbScS); bbscr = c.bbscr }
counted c (Mark BbScR) = record { frames = c.frames; rrdys = c.rrdys; bbscs = c.bbscs; bbscr = next c (Mark BbScR) }
