-- Worked examples of notices.
use Rattle.std.specs.Prelude.{◌≡◌, [], codes}
use Rattle.fsrm_model.specs.nodes.Fresh.{default_capacity, new_rows}
use Rattle.fsrm_model.specs.declared.row.Rows.{Rows}
use Rattle.fsrm_model.specs.lines.Script.{fold_script}
use Rattle.notice_text.specs.Outbox.{outbox_text}

abbrev pub two_lines : Rows
two_lines =
    fold_script default_capacity new_rows (codes "1000000000 dirquota quota add /Path:D:\\ /Limit:2mb /Type:soft \"/Add-Notification:85,m,60,[Quota Path] has [Quota Used] of [quota limit mb] MB [x]\"\n1000000000 create D:\\a 1800000 1\n") 2

-- a macro in any spelling gives its value, and what is none stays
abbrev pub expanded : Type 0
expanded = outbox_text default_capacity two_lines 0 ≡ codes "  2001-09-09 01:46:40 m quota 85 0 D:\\\n    D:\\ has 1802240 of 2 MB [x]\n"

-- an action that ran before isn't listed
abbrev pub before : Type 0
before = outbox_text default_capacity two_lines 1000000001 ≡ []

-- notices of a screen and of quotas, in the order of their moments, with values as they are at the end
abbrev pub more_lines : Rows
more_lines =
    fold_script default_capacity new_rows (codes "100 mkdir D:\\q 1\n100 dirquota quota add /Path:D:\\q /Limit:100kb /Type:soft \"/Add-Notification:50,e,0,[Quota Used Percent]% [Screen Path][[Quota Peak]\" /Add-Notification:80,c,0,[QUOTA\n100 filescrn filegroup add /Filegroup:G /Members:*.x\n100 filescrn screen add /Path:D:\\ /Type:passive /Add-Filegroup:G \"/Add-Notification:m,0,[screen path]|[Notice Date]|[Quota Path]\"\n200 create D:\\q\\a 81920 1\n300 create D:\\b.x 1 1\n300 resize D:\\q\\a 4096\n") 7

abbrev pub ordered : Type 0
ordered = outbox_text default_capacity more_lines 0 ≡ codes "  1970-01-01 00:03:20 e quota 50 0 D:\\q\n    4% [Screen Path][81920\n  1970-01-01 00:03:20 c quota 80 0 D:\\q\n    [QUOTA\n  1970-01-01 00:05:00 m screen 0 D:\\\n    D:\\|1970-01-01 00:05:00|[Quota Path]\n"
