use Rattle.published.proofs.Rows.{rows}
use Rattle.published.proofs.laws.published_words.Goals as goal

pub returns : goal.returns
returns c = record { every_row_of_the_table_holds = rows }
