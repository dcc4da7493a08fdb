use Rattle.std.proofs.Common.{Some, ap, ◌∙◌}
use Rattle.std.proofs.lemmas.Result.{err_from_is_err_and}
use Rattle.boards.specs.declared.maps.MapKind.TheVariants.{FieldMap, EscapeMap}
use Rattle.job_boards.proofs.Entries.{read, unread}
use Rattle.job_boards.proofs.Heads.{headed_by, no_header}
use Rattle.job_boards.proofs.headers.read_header.Goals as goal

pub returns-in_err-rows : goal.returns-in_err-rows
returns-in_err-rows c =
    let p = err_from_is_err_and c.from_residual.result c.from_residual.ensures.1 in
    rw (p.1, p.2) (unread _ _ _ _ c.read_line.ensures c.in_err-rows.ensures.value)

pub returns-in-Field : goal.returns-in-Field
returns-in-Field c =
    headed_by _ FieldMap _ _ _ (read _ _ _ c.read_line.ensures (c.in_ok-rows.ensures.ok_part ∙ ap Some c.in-Field.is)) c.sided.ensures

pub returns-in-Escape : goal.returns-in-Escape
returns-in-Escape c =
    headed_by _ EscapeMap _ _ _ (read _ _ _ c.read_line.ensures (c.in_ok-rows.ensures.ok_part ∙ ap Some c.in-Escape.is)) c.sided-in-Escape.ensures

pub returns-in_default : goal.returns-in_default
returns-in_default c =
    no_header _ _ (read _ _ _ c.read_line.ensures c.in_ok-rows.ensures.ok_part) c.in_default.not-Field c.in_default.not-Escape
